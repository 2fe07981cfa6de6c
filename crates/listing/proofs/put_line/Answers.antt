use Rattle.listing.specs.Laws.{put-put, decimal-fits, line-fits}
use Rattle.listing.specs.Text.{number_line}
use native.Mathlib.Omega.{arith}
use Rattle.listing.proofs.put_line.Goals as goal

pub put_number-c-requires : goal.put_number-c-requires
put_number-c-requires c =
    omega (
      arith,
      decimal-fits c.args.n (omega (arith, c.ranges.n)),
      c.put_bytes-b.ensures.ends,
      c.put_bytes-b.ensures.same,
      c.requires,
    )

pub put-requires : goal.put-requires
put-requires c =
    omega (
      arith,
      decimal-fits c.args.n (omega (arith, c.ranges.n)),
      c.put_bytes-b.ensures.ends,
      c.put_bytes-b.ensures.same,
      c.put_number-c.ensures.ends,
      c.put_number-c.ensures.same,
      c.requires,
    )

pub returns : goal.returns
unfolding number_line
returns c =
    let p = put-put c.put_bytes-b.ensures (put-put c.put_number-c.ensures c.put.ensures) in
    record { put = p; upper_bound = omega (arith, p.ends, line-fits c.args.name.now c.args.n (omega (arith, c.ranges.n))) }
