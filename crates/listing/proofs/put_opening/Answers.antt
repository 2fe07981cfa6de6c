use Rattle.listing.specs.Text.{opening}
use Rattle.listing.specs.Laws.{put_holds}
use native.Mathlib.Omega.{arith}
use Rattle.listing.proofs.put_opening.Goals as goal

pub returns : goal.returns
unfolding opening
returns c = put_holds c.put_bytes.ensures (omega (arith, c.requires))
