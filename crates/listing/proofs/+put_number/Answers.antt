use Rattle.listing.specs.Laws.{put-put, decimal-one, decimal-more, one-length, more-length}
use Rattle.std.proofs.Common.{arith}
use Rattle.listing.proofs.+put_number.Goals as goal

pub put-requires : goal.put-requires
put-requires t c = omega (arith, one-length c.args.n c.if-n-lt10.true)

pub returns-then-n-lt10 : goal.returns-then-n-lt10
returns-then-n-lt10 t c = rw (decimal-one _ c.if-n-lt10.true, ← c.digit.ensures) c.put.ensures

pub put_number-b-requires : goal.put_number-b-requires
put_number-b-requires t c = (omega arith, omega (arith, more-length c.args.n c.if-n-lt10.false))

pub put-requires-2 : goal.put-requires-2
put-requires-2 t c = omega (arith, more-length c.args.n c.if-n-lt10.false, c.put_number-b.ensures.ends, c.put_number-b.ensures.same)

pub returns : goal.returns
returns t c = rw (decimal-more _ c.if-n-lt10.false, ← c.digit-2.ensures) (put-put c.put_number-b.ensures c.put-2.ensures)
