-- `marks::valid_in` meets its contract. Assumes nothing.
use native.Mathlib.Omega.{arith}
use Rattle.bounds.specs.Bounds.{row-limit-is}
use Rattle.marks.specs.MarkingLaws.{past-map}
use Rattle.marks.proofs.valid_in.Goals as goal

pub returns-then-first-ge-ROW_LIMIT : goal.returns-then-first-ge-ROW_LIMIT
returns-then-first-ge-ROW_LIMIT c = λ h m. absurd (grind (arith, row-limit-is))

pub returns-then-nulls-at : goal.returns-then-nulls-at
returns-then-nulls-at c = λ h m. past-map _ _ _ c.if-nulls-at.true m
