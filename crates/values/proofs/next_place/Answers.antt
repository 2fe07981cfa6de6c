use Rattle.builder.specs.SearchLaws.{after-wrap, after_more}
use native.Mathlib.Omega.{arith}
use Rattle.values.proofs.next_place.Goals as goal

pub returns-then-p-n : goal.returns-then-p-n
returns-then-p-n c = (after-wrap _ _ c.if-p-n.true, omega arith)

pub returns-else-p-n : goal.returns-else-p-n
returns-else-p-n c = (after_more _ _ c.if-p-n.false, omega (arith, c.if-p-n.false))
