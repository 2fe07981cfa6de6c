use Rattle.listing.specs.Text.{gap_line}
use Rattle.listing.specs.Laws.{put-put, put_holds, decimal-fits}
use native.Mathlib.Omega.{arith}
use Rattle.listing.proofs.put_gap.Goals as goal

pub put_number-b-requires : goal.put_number-b-requires
put_number-b-requires c =
    omega (
      arith,
      decimal-fits c.args.n (omega (arith, c.ranges.n)),
      c.put_bytes-a.ensures.ends,
      c.put_bytes-a.ensures.same,
      c.requires,
    )

pub put_bytes-requires : goal.put_bytes-requires
put_bytes-requires c =
    omega (
      arith,
      decimal-fits c.args.n (omega (arith, c.ranges.n)),
      c.put_bytes-a.ensures.ends,
      c.put_bytes-a.ensures.same,
      c.put_number-b.ensures.ends,
      c.put_number-b.ensures.same,
      c.requires,
    )

pub returns : goal.returns
unfolding gap_line
returns c =
    let p = put-put c.put_bytes-a.ensures (put-put c.put_number-b.ensures c.put_bytes.ensures) in
    put_holds p (omega (
      arith,
      decimal-fits c.args.n (omega (arith, c.ranges.n)),
      c.put_bytes-a.ensures.ends,
      c.put_number-b.ensures.ends,
      c.put_bytes.ensures.ends,
      p.ends,
      c.requires,
    ))
