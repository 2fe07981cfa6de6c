-- `column::map_holds` meets its contract. Assumes nothing.
use native.Mathlib.Omega.{arith}
use Rattle.bounds.specs.Bounds.{row-limit-is}
use Rattle.column.proofs.map_holds.Goals as goal

pub overflow_add-result : goal.overflow_add-result
overflow_add-result c = omega (arith, row-limit-is)
