-- `comparison::same_rows` meets its contract. The invariant: the rows passed are the same. Assumes nothing.
use mathlib.Core.Path.{refl, sym, ◌∙◌}
use native.Mathlib.Omega.{arith}
use Rattle.comparison.specs.Same.{same_rows}
use Rattle.comparison.proofs.SameLaws.{row-differs, row-alike}
use Rattle.comparison.proofs.same_rows.Goals as goal

pub loop-k-init : goal.loop-k-init
unfolding same_rows
loop-k-init c = refl

pub returns-then-not-same_row : goal.returns-then-not-same_row
returns-then-not-same_row c = row-differs _ _ _ _ _ _ (omega arith) (sym c.same_row.ensures ∙ c.if-not-same_row.true)

pub loop-k-preserved : goal.loop-k-preserved
loop-k-preserved c = row-alike _ _ _ _ _ c.loop-k.invariant (sym c.same_row.ensures ∙ c.if-not-same_row.false)
