use Rattle.builder.specs.RoomLaws.{all_none, all-open}
use native.Mathlib.Omega.{arith}
use Rattle.builder.proofs.all_blocks.Goals as goal

pub returns-then-s-eq0 : goal.returns-then-s-eq0
returns-then-s-eq0 c = all_none _ c.if-s-eq0.true

pub overflow_add-result : goal.overflow_add-result
overflow_add-result c = omega (arith, all-open c.args.s c.if-s-eq0.false)

pub returns-else-s-eq0 : goal.returns-else-s-eq0
returns-else-s-eq0 c = all-open _ c.if-s-eq0.false
