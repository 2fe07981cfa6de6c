use Rattle.bounds.specs.Bounds.{row-limit-small}
use native.Mathlib.Omega.{arith}
use Rattle.values.proofs.enter.Goals as goal

pub overflow_add-places : goal.overflow_add-places
overflow_add-places c = omega (arith, row-limit-small)

pub overflow_cast-places : goal.overflow_cast-places
overflow_cast-places c = omega (arith, row-limit-small)
