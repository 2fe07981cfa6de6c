use Rattle.compaction.proofs.CutLaws.{room-kept, long-put}
use native.Mathlib.Omega.{arith}
use Rattle.compaction.proofs.put_long.Goals as goal

pub put_value-requires : goal.put_value-requires
put_value-requires c =
    let g = room-kept _ _ _ _ c.room_for-t.ensures in
    let p = c.requires in
    record { row = p.row; place = omega arith; long = p.long; len = omega arith; block = omega arith; offset = omega arith }

pub returns : goal.returns
returns c =
    let p = c.put_value.ensures in
    long-put _ _ _ _ _ _ _ _ _ _ c.room_for-t.ensures c.grown.ensures p.views p.bytes
