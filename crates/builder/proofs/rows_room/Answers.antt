use Rattle.builder.specs.Rooms.{room_of_rows}
use Rattle.bounds.specs.Bounds.{row-limit-is}
use native.Mathlib.Omega.{arith}
use Rattle.builder.proofs.rows_room.Goals as goal

pub returns : goal.returns
unfolding room_of_rows
returns c = omega (arith, row-limit-is)
