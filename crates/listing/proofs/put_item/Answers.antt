use Rattle.listing.specs.Laws.{put-put, item-first, item-later, decimal-length}
use native.Mathlib.Omega.{arith}
use Rattle.listing.proofs.put_item.Goals as goal

pub put_number-requires : goal.put_number-requires
put_number-requires c = omega (arith, decimal-length 2 c.args.x (omega (arith, c.ranges.x)))

pub returns-then-k-eq0 : goal.returns-then-k-eq0
returns-then-k-eq0 c = rw (c.if-k-eq0.true, item-first) c.put_number.ensures

pub put_number-requires-2 : goal.put_number-requires-2
put_number-requires-2 c =
    omega (
      arith,
      decimal-length 2 c.args.x (omega (arith, c.ranges.x)),
      c.put-b.ensures.ends,
      c.put-c.ensures.ends,
      c.put-b.ensures.same,
      c.put-c.ensures.same,
    )

pub returns : goal.returns
returns c =
    rw (item-later _ _ c.if-k-eq0.false) (put-put c.put-b.ensures (put-put c.put-c.ensures
    c.put_number-2.ensures))
