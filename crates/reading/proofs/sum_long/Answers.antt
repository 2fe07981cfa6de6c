-- `reading::sum_long` meets its contract. Assumes nothing.
use native.Mathlib.Omega.{arith}
use Rattle.bounds.specs.Bounds.{row-limit-small}
use Rattle.reading.specs.TotalLaws.{buffer-none, buffer-more}
use Rattle.reading.proofs.sum_long.Goals as goal

pub loop-k-init : goal.loop-k-init
loop-k-init c = (buffer-none _ _, omega arith)

pub overflow_add-sum : goal.overflow_add-sum
overflow_add-sum c = omega (arith, row-limit-small)

pub loop-k-preserved : goal.loop-k-preserved
loop-k-preserved c = (buffer-more _ _ _ _ _ c.loop-k.invariant.0 c.long_bytes-sum.ensures.0, omega arith)
