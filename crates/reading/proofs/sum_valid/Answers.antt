-- `reading::sum_valid` meets its contract. Assumes nothing.
use native.Mathlib.Omega.{arith}
use Rattle.bounds.specs.Bounds.{row-limit-small}
use Rattle.reading.specs.TotalLaws.{bytes-none, bytes-more}
use Rattle.reading.proofs.sum_valid.Goals as goal

pub loop-k-init : goal.loop-k-init
loop-k-init c = (bytes-none _ _, omega arith)

pub overflow_add-sum : goal.overflow_add-sum
overflow_add-sum c = omega (arith, row-limit-small)

pub loop-k-preserved : goal.loop-k-preserved
loop-k-preserved c = (bytes-more _ _ _ _ _ c.loop-k.invariant.0 c.valid_bytes-sum.ensures.0, omega arith)
