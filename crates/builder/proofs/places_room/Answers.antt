use Rattle.bounds.specs.Bounds.{row-limit-is}
use Rattle.builder.proofs.places_room.Goals as goal

pub returns-in-Off : goal.returns-in-Off
returns-in-Off c = rw c.in-Off.is row-limit-is
