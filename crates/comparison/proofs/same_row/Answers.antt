-- `comparison::same_row` meets its contract. Assumes nothing.
use mathlib.Core.Bool.{not}
use mathlib.Core.Path.{ap, ap₂, ◌∙◌}
use native.Mathlib.Omega.{arith}
use Rattle.bounds.specs.Bounds.{row-limit-small}
use Rattle.column.proofs.FitLaws.{fits_gives}
use Rattle.column.proofs.ReachLaws.{shown-bare}
use Rattle.order.specs.Order.{same}
use Rattle.comparison.proofs.SameLaws.{bits-differ, bits-alike}
use Rattle.comparison.specs.VerdictLaws.{readable}
use Rattle.comparison.proofs.same_row.Goals as goal

pub overflow_add-c : goal.overflow_add-c
overflow_add-c c = let p = c.requires in
    let g = fits_gives _ _ _ _ _ _ p.fit in omega (arith, row-limit-small)

pub valid_at-valid-requires : goal.valid_at-valid-requires
valid_at-valid-requires c = let p = c.requires in
    let g = fits_gives _ _ _ _ _ _ p.fit in λ m. let h = g.bits m in omega arith

pub overflow_add-d : goal.overflow_add-d
overflow_add-d c =
    let p = c.requires in let g = fits_gives _ _ _ _ _ _ p.fit2 in omega (arith, row-limit-small)

pub valid_at-valid2-requires : goal.valid_at-valid2-requires
valid_at-valid2-requires c =
    let p = c.requires in let g = fits_gives _ _ _ _ _ _ p.fit2 in λ m. let h = g.bits m in omega arith

pub returns-else-valid-valid2 : goal.returns-else-valid-valid2
returns-else-valid-valid2 c =
    rw c.if-valid-valid2.false
    (bits-differ _ _ _ _ _ _ _ c.valid_at-valid.ensures c.valid_at-valid2.ensures (ap not c.if-valid-valid2.false))

pub overflow_add-c-then-valid-valid2 : goal.overflow_add-c-then-valid-valid2
overflow_add-c-then-valid-valid2 c =
    let p = c.requires in let g = fits_gives _ _ _ _ _ _ p.fit in omega (arith, row-limit-small)

pub value_part-requires : goal.value_part-requires
value_part-requires c =
    let p = c.requires in let q = readable _ _ _ _ _ _ _ p.fit p.row p.reach in (q.room, q.reach)

pub overflow_add-d-then-valid-valid2 : goal.overflow_add-d-then-valid-valid2
overflow_add-d-then-valid-valid2 c =
    let p = c.requires in let g = fits_gives _ _ _ _ _ _ p.fit2 in omega (arith, row-limit-small)

pub value_part-requires-then-valid-valid2 : goal.value_part-requires-then-valid-valid2
value_part-requires-then-valid-valid2 c =
    let p = c.requires in let q = readable _ _ _ _ _ _ _ p.fit2 p.row2 p.reach2 in (q.room, q.reach)

pub returns-then-valid-valid2 : goal.returns-then-valid-valid2
returns-then-valid-valid2 c =
    bits-alike _ _ _ _ _ _ _ c.valid_at-valid.ensures c.valid_at-valid2.ensures
    (ap not c.if-valid-valid2.true) _ (c.same.ensures ∙ ap₂ same (c.value_part.ensures.0
    ∙ shown-bare _ _ _ _ _ _ _) (c.value_part-then-valid-valid2.ensures.0 ∙ shown-bare _ _ _ _ _ _ _))
