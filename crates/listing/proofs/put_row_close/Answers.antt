use Rattle.listing.specs.Text.{row_close}
use Rattle.listing.specs.Laws.{put_holds}
use native.Mathlib.Omega.{arith}
use Rattle.listing.proofs.put_row_close.Goals as goal

pub returns : goal.returns
unfolding row_close
returns c = put_holds c.put_bytes.ensures (omega (arith, c.requires))
