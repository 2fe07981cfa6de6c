-- No second answer to a read, an append, a count, or a run of bits written.
-- Assumes nothing.
use mathlib.Core.Path.{sym, ◌∙◌}
use Rattle.basis.specs.Only.{Only}
use Rattle.null_bits.proofs.valid_at.Kinds as valid-at-kinds
use Rattle.null_bits.proofs.valid_at.Reads as valid-at
use Rattle.null_bits.proofs.put_bit.Kinds as put-bit-kinds
use Rattle.null_bits.proofs.put_bit.Reads as put-bit
use Rattle.null_bits.proofs.runs.put_run.Kinds as put-run-kinds
use Rattle.null_bits.proofs.runs.put_run.Reads as put-run
use Rattle.null_bits.proofs.runs.copy_column.Kinds as copy-column-kinds
use Rattle.null_bits.proofs.runs.copy_column.Reads as copy-column
use Rattle.null_bits.proofs.count_nulls.Kinds as count-nulls-kinds
use Rattle.null_bits.proofs.count_nulls.Reads as count-nulls

pub one_bit : Only valid-at-kinds.ps valid-at-kinds.r valid-at.Post (λ κs z s. z)
one_bit κs a z z' s s' p q = p ∙ sym q

pub one_map : Only put-bit-kinds.ps put-bit-kinds.r put-bit.Post (λ κs z s. s.0.now)
one_map κs a z z' s s' p q = p ∙ sym q

pub one-count : Only count-nulls-kinds.ps count-nulls-kinds.r count-nulls.Post (λ κs z s. z)
one-count κs a z z' s s' p q = p ∙ sym q

pub one-run : Only put-run-kinds.ps put-run-kinds.r put-run.Post (λ κs z s. s.0.now)
one-run κs a z z' s s' p q = p ∙ sym q

pub one-column : Only copy-column-kinds.ps copy-column-kinds.r copy-column.Post (λ κs z s. s.0.now)
one-column κs a z z' s s' p q = p ∙ sym q
