-- No second answer to a comparison or to the question whether two columns are the same.
-- Assumes nothing.
use mathlib.Core.Path.{sym, ◌∙◌}
use Rattle.basis.specs.Only.{Only}
use Rattle.comparison.proofs.compare.Kinds as compare-kinds
use Rattle.comparison.proofs.compare.Reads as compare
use Rattle.comparison.proofs.same_column.Kinds as same-column-kinds
use Rattle.comparison.proofs.same_column.Reads as same-column

pub one-order : Only compare-kinds.ps compare-kinds.r compare.Post (λ κs z s. z)
one-order κs a z z' s s' p q = p ∙ sym q

pub one-sameness : Only same-column-kinds.ps same-column-kinds.r same-column.Post (λ κs z s. z)
one-sameness κs a z z' s s' p q = p ∙ sym q
