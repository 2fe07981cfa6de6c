use Rattle.builder.specs.Rooms.{room_of_blocks}
use native.Mathlib.Omega.{arith}
use Rattle.filing.proofs.fits_with.Goals as goal

pub state_fits-requires : goal.state_fits-requires
unfolding room_of_blocks
state_fits-requires c = rw c.blocks_room.ensures (omega arith)
