use Rattle.compaction.proofs.CutLaws.{room-kept, step-short, step-long}
use Rattle.std.proofs.Common.{arith}
use Rattle.compaction.proofs.Stand.step.Goals as goal

pub returns-then-n-le-SHORT_MOST : goal.returns-then-n-le-SHORT_MOST
returns-then-n-le-SHORT_MOST c = step-short _ _ _ (omega arith)

pub grown-requires : goal.grown-requires
grown-requires c = let g = room-kept _ _ _ _ c.room_for.ensures in omega arith

pub returns : goal.returns
returns c = step-long _ _ _ _ _ (omega arith) c.room_for.ensures c.grown.ensures
