use Rattle.bounds.specs.Bounds.{row-limit-small, block-limit-small}
use native.Mathlib.Omega.{arith}
use Rattle.appending.proofs.column_more.Goals as goal

pub overflow_add-result : goal.overflow_add-result
overflow_add-result c = omega (arith, row-limit-small)

pub overflow_add-result-2 : goal.overflow_add-result-2
overflow_add-result-2 c = omega (arith, block-limit-small)
