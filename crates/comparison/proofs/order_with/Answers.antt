-- `comparison::order_with` meets its contract. Assumes nothing.
use mathlib.Core.Path.{ap₂, ◌∙◌}
use native.Mathlib.Omega.{arith}
use Rattle.order.specs.Order.{cmp}
use Rattle.comparison.specs.VerdictLaws.{told_is, told-whole}
use Rattle.comparison.proofs.order_with.Goals as goal

pub returns-then-v-ne-VIEW_SIZE : goal.returns-then-v-ne-VIEW_SIZE
returns-then-v-ne-VIEW_SIZE c = λ bs cs h g ex ey. absurd (grind arith)

pub returns-in-Some : goal.returns-in-Some
returns-in-Some c = λ bs cs h g ex ey. told_is _ _ _ (c.by_views.ensures bs cs) _ c.in-Some.is

pub returns-in-None : goal.returns-in-None
returns-in-None c = λ bs cs h g ex ey. c.cmp.ensures ∙ ap₂ cmp ex ey ∙ told-whole _ _ _ (c.by_views.ensures bs cs)
    c.in-None.is
