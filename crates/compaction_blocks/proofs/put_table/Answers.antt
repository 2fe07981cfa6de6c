use Rattle.std.proofs.Common.{refl, ◌∙◌, arith}
use Rattle.compaction.proofs.PassLaws.{listed-empty, table-one, listed-one}
use Rattle.compaction_blocks.proofs.RecordLaws.{starts-long, starts-set, lens-set}
use Rattle.compaction_blocks.proofs.put_table.Goals as goal

pub returns-in-0 : goal.returns-in-0
returns-in-0 c = listed-empty _ _ _ _ _ _ _ c.requires.counted c.in-0.is

pub bounds-newtable-0 : goal.bounds-newtable-0
bounds-newtable-0 c =
    let p = c.requires in
    let i = table-one _ _ _ _ _ _ _ p.counted p.source.2 c.in-1.is in omega (arith, starts-long c.args.newtable.now, i.0)

pub returns-in-1 : goal.returns-in-1
returns-in-1 c =
    let p = c.requires in
    let l = listed-one _ _ _ _ _ _ _ p.counted p.source.2 c.in-1.is in
    record { starts = starts-set _ _ _ _ _ _ refl refl ∙ l.starts; lens = lens-set _ _ _ _ _ _ refl refl ∙ l.lens }
