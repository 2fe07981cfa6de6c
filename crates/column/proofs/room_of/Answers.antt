-- `column::room_of` meets its contract. Assumes nothing.
use native.Mathlib.Omega.{arith}
use Rattle.bounds.specs.Bounds.{byte-limit-is}
use Rattle.column.specs.Lent.{data_room}
use Rattle.column.proofs.room_of.Goals as goal

pub returns : goal.returns
unfolding data_room
returns c = omega (arith, byte-limit-is)
