-- No second answer to the check.
-- Assumes nothing.
use mathlib.Core.Path.{sym, ◌∙◌}
use Rattle.basis.specs.Only.{Only}
use Rattle.validity.proofs.check.Kinds as check-kinds
use Rattle.validity.proofs.check.Reads as check

pub one-verdict : Only check-kinds.ps check-kinds.r check.Post (λ κs z s. z)
one-verdict κs a z z' s s' p q = p ∙ sym q
