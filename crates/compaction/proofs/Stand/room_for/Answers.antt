use Rattle.compaction.proofs.CutLaws.{room_in_lem, room-over}
use Rattle.std.proofs.Common.{arith}
use Rattle.compaction.proofs.Stand.room_for.Goals as goal

pub returns-then-self-n : goal.returns-then-self-n
returns-then-self-n c = room_in_lem _ _ _ (omega arith)

pub returns : goal.returns
returns c = room-over _ _ _ (omega arith)
