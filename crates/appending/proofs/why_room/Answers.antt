use Rattle.appending.specs.BlockLaws.{room-no-block, room-no-data, room-fine}
use native.Mathlib.Omega.{arith}
use Rattle.appending.proofs.why_room.Goals as goal

pub returns-then-blocks-all_blocks : goal.returns-then-blocks-all_blocks
returns-then-blocks-all_blocks c = room-no-block _ _ _ _ _ (omega (arith, c.all_blocks.ensures))

pub returns-then-bytes-s : goal.returns-then-bytes-s
returns-then-bytes-s c = room-no-data _ _ _ _ _ (omega (arith, c.all_blocks.ensures)) c.if-bytes-s.true

pub returns : goal.returns
returns c = room-fine _ _ _ _ _ (omega (arith, c.all_blocks.ensures)) c.if-bytes-s.false
