use Rattle.marking.specs.Text.{tally_lines}
use Rattle.listing.specs.Laws.{put-put, put_holds}
use native.Mathlib.Omega.{arith}
use borrow.Author.Rules.{rules}
use Rattle.marking.proofs.put_tally.Goals as goal

pub returns : goal.returns
unfolding tally_lines
returns c =
    let p = put-put c.put_line-a.ensures.put (put-put c.put_line-b.ensures.put (put-put c.put_line-c.ensures.put c.put_line.ensures.put)) in
    put_holds p (omega (arith, p.ends, c.put_line-a.ensures.upper_bound, c.put_line-b.ensures.upper_bound, c.put_line-c.ensures.upper_bound, c.put_line.ensures.upper_bound))
