use Rattle.builder.specs.RoomLaws.{fits-is}
use Rattle.builder.specs.Rooms.{room_of_blocks}
use mathlib.Core.Path.{◌∙◌}
use native.Mathlib.Omega.{arith}
use Rattle.builder.proofs.fits_lent.Goals as goal

pub state_fits-requires : goal.state_fits-requires
unfolding room_of_blocks
state_fits-requires c = rw c.blocks_room.ensures (omega arith)

pub returns : goal.returns
returns c = c.state_fits.ensures ∙ fits-is _ _ _ _ _ _ _ _ _ _ c.rows_room.ensures
    c.blocks_room.ensures c.bytes_room.ensures
