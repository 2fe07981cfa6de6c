use Rattle.std.proofs.Common.{arith}
use Rattle.offsets.specs.OffsetLaws.{count-large, count_small}
use Rattle.offsets.proofs.Input.count.Goals as goal

pub returns-then-self : goal.returns-then-self
returns-then-self c = (count-large _ _ c.if-self.true, omega arith)

pub returns-else-self : goal.returns-else-self
returns-else-self c = (count_small _ _ c.if-self.false, omega arith)
