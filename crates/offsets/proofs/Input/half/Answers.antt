use Rattle.offsets.specs.OffsetLaws.{half-large, half-small}
use Rattle.offsets.proofs.Input.half.Goals as goal

pub returns-then-self : goal.returns-then-self
returns-then-self c = half-large _ c.if-self.true

pub returns-else-self : goal.returns-else-self
returns-else-self c = half-small _ c.if-self.false
