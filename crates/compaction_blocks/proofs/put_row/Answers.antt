use Rattle.std.proofs.Common.{refl, ap, ◌∙◌, ◌*◌, length, arith}
use Rattle.views.specs.View.{view_size}
use Rattle.column.proofs.SpotLaws.{spot_is, spot-reaches, spot-shown, spot-lies, spot-length}
use Rattle.compaction.proofs.CutLaws.{view-paste, row-short, row-long}
use Rattle.compaction_blocks.proofs.put_row.Goals as goal

pub returns-then-view_len-le-SHORT_MOST : goal.returns-then-view_len-le-SHORT_MOST
returns-then-view_len-le-SHORT_MOST c =
    let s = c.args in
    row-short _ _ _ _ _ _ _ _ _ _ (omega (arith, c.view_len.ensures))
    (record {
      next = refl;
      views = c.copy16.ensures ∙ view-paste s.newviews.now s.l.views.now (view_size * s.row) s.at;
      bytes = refl;
    })

pub part_of-value-requires : goal.part_of-value-requires
part_of-value-requires c = spot-lies _ _ _ _ _ _ _ c.room_of.ensures c.spot_with-spot.ensures c.requires.source.0

pub put_long-requires : goal.put_long-requires
put_long-requires c =
    let p = c.requires in
    let r = spot-reaches _ _ _ _ _ _ _ c.room_of.ensures c.spot_with-spot.ensures _ _ (c.record_at-b.ensures _) ∙ p.source.1 in
    let e = ap length c.part_of-value.ensures.0 ∙ spot-length _ _ _ _ _ _ _ c.room_of.ensures c.spot_with-spot.ensures r p.source.0 in
    rw e (p.room.long (omega (arith, c.view_len.ensures)))

pub returns : goal.returns
returns c =
    let r = spot-reaches _ _ _ _ _ _ _ c.room_of.ensures c.spot_with-spot.ensures _ _ (c.record_at-b.ensures _) ∙ c.requires.source.1 in
    row-long _ _ _ _ _ _ _ _ _ _ _ (omega (arith, c.view_len.ensures))
    (c.part_of-value.ensures.0 ∙ spot-shown _ _ _ _ _ _ _ (spot_is _ _ _ _ _ _ _ c.room_of.ensures c.spot_with-spot.ensures _ _ (c.record_at-b.ensures _)) r)
    c.put_long.ensures
