use Rattle.std.proofs.Common.{arith}
use Rattle.compaction.proofs.PassLaws.{listed-empty, table-one, listed-one}
use Rattle.compaction.proofs.put_table.Goals as goal

pub returns-in-0 : goal.returns-in-0
returns-in-0 c = listed-empty _ _ _ _ _ _ _ c.requires.counted c.in-0.is

pub bounds-newstarts-0 : goal.bounds-newstarts-0
bounds-newstarts-0 c = let p = c.requires in let i = table-one _ _ _ _ _ _ _ p.counted p.source.2 c.in-1.is in omega arith

pub bounds-newlens-0 : goal.bounds-newlens-0
bounds-newlens-0 c = let p = c.requires in let i = table-one _ _ _ _ _ _ _ p.counted p.source.2 c.in-1.is in omega arith

pub returns-in-1 : goal.returns-in-1
returns-in-1 c = let p = c.requires in listed-one _ _ _ _ _ _ _ p.counted p.source.2 c.in-1.is
