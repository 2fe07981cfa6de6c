use Rattle.builder.proofs.StepLaws.{record-none, record-open}
use Rattle.builder.specs.RoomLaws.{all-open}
use native.Mathlib.Omega.{arith}
use Rattle.builder.proofs.put_record.Goals as goal

pub returns-else-s-ne0 : goal.returns-else-s-ne0
returns-else-s-ne0 c = record-none _ _ _ c.if-s-ne0.false

pub offset_bounds-starts-s : goal.offset_bounds-starts-s
offset_bounds-starts-s c = omega (arith, all-open c.args.s c.if-s-ne0.true)

pub bounds-starts-s : goal.bounds-starts-s
bounds-starts-s c = omega (arith, all-open c.args.s c.if-s-ne0.true)

pub offset_bounds-lens-s : goal.offset_bounds-lens-s
offset_bounds-lens-s c = omega (arith, all-open c.args.s c.if-s-ne0.true)

pub bounds-lens-s : goal.bounds-lens-s
bounds-lens-s c = omega (arith, all-open c.args.s c.if-s-ne0.true)

pub returns-then-s-ne0 : goal.returns-then-s-ne0
returns-then-s-ne0 c = record-open _ _ _ c.if-s-ne0.true
