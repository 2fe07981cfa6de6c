use Rattle.listing.specs.Text.{refused_line}
use Rattle.listing.specs.Laws.{put_holds}
use native.Mathlib.Omega.{arith}
use Rattle.listing.proofs.put_refused.Goals as goal

pub returns : goal.returns
unfolding refused_line
returns c = put_holds c.put_line.ensures.put (omega (
  arith,
  c.requires,
  c.put_line.ensures.put.ends,
  c.put_line.ensures.upper_bound,
))
