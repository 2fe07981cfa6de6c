use Rattle.listing.specs.Text.{closing}
use Rattle.listing.specs.Laws.{put-put, put_holds}
use native.Mathlib.Omega.{arith}
use Rattle.listing.proofs.put_closing.Goals as goal

pub returns : goal.returns
unfolding closing
returns c =
    let p = put-put c.put_bytes-a.ensures (put-put c.put_line-b.ensures.put (put-put c.put_line-c.ensures.put
    (put-put c.put_line-d.ensures.put (put-put c.put_line-e.ensures.put c.put_line.ensures.put)))) in
    put_holds p (omega (
      arith,
      p.ends,
      c.requires,
      c.put_bytes-a.ensures.ends,
      c.put_line-b.ensures.upper_bound,
      c.put_line-c.ensures.upper_bound,
      c.put_line-d.ensures.upper_bound,
      c.put_line-e.ensures.upper_bound,
      c.put_line.ensures.upper_bound,
    ))
