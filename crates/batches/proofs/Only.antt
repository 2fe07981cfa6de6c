-- No second answer to an batch.
-- Assumes nothing.
use Rattle.std.proofs.Common.{sym, ◌∙◌}
use Rattle.basis.specs.Only.{Only}
use Rattle.batches.proofs.bench_count_less.Kinds as count-less-kinds
use Rattle.batches.proofs.bench_count_less.Reads as count_less
use Rattle.batches.proofs.bench_read_all.Kinds as read-all-kinds
use Rattle.batches.proofs.bench_read_all.Reads as read_all

pub one-count : Only count-less-kinds.ps count-less-kinds.r count_less.Post (λ κs z s. z)
one-count κs a z z' s s' p q = p ∙ sym q

pub one-sum : Only read-all-kinds.ps read-all-kinds.r read_all.Post (λ κs z s. z)
one-sum κs a z z' s s' p q = p ∙ sym q
