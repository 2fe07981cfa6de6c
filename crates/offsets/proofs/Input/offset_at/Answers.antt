use Rattle.std.proofs.Common.{arith}
use Rattle.offsets.specs.OffsetLaws.{in-large, in_small, at-large, at_small}
use Rattle.offsets.proofs.Input.offset_at.Goals as goal

pub overflow_mul-j : goal.overflow_mul-j
overflow_mul-j c = let h = in-large _ _ _ c.if-self.true c.requires in omega arith

pub le64-requires : goal.le64-requires
le64-requires c = in-large _ _ _ c.if-self.true c.requires

pub returns-then-self : goal.returns-then-self
returns-then-self c = at-large _ _ _ _ c.if-self.true c.le64.ensures

pub overflow_mul-j-else-self : goal.overflow_mul-j-else-self
overflow_mul-j-else-self c = let h = in_small _ _ _ c.if-self.false c.requires in omega arith

pub le32-requires : goal.le32-requires
le32-requires c = in_small _ _ _ c.if-self.false c.requires

pub returns-else-self : goal.returns-else-self
returns-else-self c = at_small _ _ _ _ c.if-self.false c.le32.ensures.0
