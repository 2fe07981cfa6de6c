use Rattle.builder.specs.Rooms.{room_of_bytes}
use Rattle.bounds.specs.Bounds.{byte-limit-is}
use native.Mathlib.Omega.{arith}
use Rattle.builder.proofs.bytes_room.Goals as goal

pub returns : goal.returns
unfolding room_of_bytes
returns c = omega (arith, byte-limit-is)
