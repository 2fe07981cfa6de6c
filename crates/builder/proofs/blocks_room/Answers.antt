use Rattle.builder.specs.Rooms.{room_of_blocks}
use Rattle.bounds.specs.Bounds.{block-limit-is}
use native.Mathlib.Omega.{arith}
use Rattle.builder.proofs.blocks_room.Goals as goal

pub returns : goal.returns
unfolding room_of_blocks
returns c = omega (arith, block-limit-is)
