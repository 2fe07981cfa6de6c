-- No second answer to `first_bad` and `is_utf8`. Assumes nothing.
use mathlib.Core.Path.{sym, ◌∙◌}
use Rattle.basis.specs.Only.{Only}
use Rattle.utf8.proofs.first_bad.Kinds as first-kinds
use Rattle.utf8.proofs.first_bad.Reads as first_reads
use Rattle.utf8.proofs.is_utf8.Kinds as is-kinds
use Rattle.utf8.proofs.is_utf8.Reads as is-reads

pub first-bad-only : Only first-kinds.ps first-kinds.r first_reads.Post (λ κs z s. z)
first-bad-only κs a z z' s s' p q = p ∙ sym q

pub is-utf8-only : Only is-kinds.ps is-kinds.r is-reads.Post (λ κs z s. z)
is-utf8-only κs a z z' s s' p q = p ∙ sym q
