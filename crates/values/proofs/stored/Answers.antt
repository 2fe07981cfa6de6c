use Rattle.bounds.specs.Bounds.{row-limit-small}
use native.Mathlib.Omega.{arith}
use Rattle.values.proofs.stored.Goals as goal

pub overflow_add-result : goal.overflow_add-result
overflow_add-result c = omega (arith, row-limit-small)
