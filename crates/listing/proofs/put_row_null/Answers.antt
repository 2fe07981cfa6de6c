use Rattle.listing.specs.Text.{row_null}
use Rattle.listing.specs.Laws.{put_holds}
use native.Mathlib.Omega.{arith}
use Rattle.listing.proofs.put_row_null.Goals as goal

pub returns : goal.returns
unfolding row_null
returns c = put_holds c.put_bytes.ensures (omega (arith, c.requires))
