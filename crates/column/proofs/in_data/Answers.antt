-- `column::in_data` meets its contract. Assumes nothing.
use native.Mathlib.Omega.{arith}
use Rattle.std.proofs.Common.{leb-true, leb-false}
use Rattle.bounds.specs.Bounds.{byte-limit-is}
use Rattle.column.proofs.FitLaws.{in-data-not, in-data-is}
use Rattle.column.proofs.in_data.Goals as goal

pub returns-then-start-len : goal.returns-then-start-len
returns-then-start-len c = in-data-is _ _ _ (grind (arith, byte-limit-is, leb-true, leb-false))

pub returns-else-start-len : goal.returns-else-start-len
returns-else-start-len c = rw c.if-start-len.false (in-data-not _ _ _ (grind (arith, byte-limit-is, leb-true, leb-false)))
