use Rattle.compaction.proofs.CallLaws.{wrote-not, wrote, accepts, source, write-in, room-table, map-in}
use Rattle.compaction_blocks.proofs.RecordLaws.{compacts}
use Rattle.compaction_blocks.proofs.compact.Goals as goal

pub returns-in-Err : goal.returns-in-Err
returns-in-Err c = compacts _ _ _ _ _ _ _ _ _ _ _ _ _ _ _ (wrote-not _ _ _ _ _ _ _ _ _ _ _ _ _ c.in-Err.ensures)

pub write-requires : goal.write-requires
write-requires c =
    let h = accepts _ _ _ _ _ _ _ _ _ _ _ _ _ c.in-Ok.ensures in
    record { source = source _ _ _ _ _ _ _ _ _ _ _ _ h; room = write-in _ _ _ _ _ _ _ _ _ _ _ _ h }

pub put_table-requires : goal.put_table-requires
put_table-requires c =
    let h = accepts _ _ _ _ _ _ _ _ _ _ _ _ _ c.in-Ok.ensures in
    let s = source _ _ _ _ _ _ _ _ _ _ _ _ h in
    record { source = (s.views, s.rows, room-table _ _ _ _ _ _ _ _ _ _ _ _ h); counted = c.in-Ok.ensures.count }

pub put_map-requires : goal.put_map-requires
put_map-requires c = map-in _ _ _ _ _ _ _ _ _ _ _ _ (accepts _ _ _ _ _ _ _ _ _ _ _ _ _ c.in-Ok.ensures)

pub returns-in-Ok : goal.returns-in-Ok
returns-in-Ok c =
    compacts _ _ _ _ _ _ _ _ _ _ _ _ _ _ _
    (wrote _ _ _ _ _ _ _ _ _ _ _ _ _ c.in-Ok.ensures _ _ _ _ _ c.write.ensures c.put_table.ensures c.put_map.ensures)
