use Rattle.views.specs.View.{view_size}
use Prim.Native.Nat.{◌*◌}
use Rattle.views.specs.ViewLaws.{length-view}
use Rattle.column.proofs.ReachLaws.{length-shown}
use lib.ListN.{length}
use mathlib.Core.Path.{refl, ap, ◌∙◌}
use Rattle.compaction.proofs.CutLaws.{view-paste, row-short, row-long}
use native.Mathlib.Omega.{arith}
use Rattle.compaction.proofs.put_row.Goals as goal

pub returns-then-view_len-le-SHORT_MOST : goal.returns-then-view_len-le-SHORT_MOST
returns-then-view_len-le-SHORT_MOST c =
    let s = c.args in
    row-short _ _ _ _ _ _ _ _ _ _ (omega (arith, c.view_len.ensures))
    (record {
      next = refl;
      views = c.copy16.ensures ∙ view-paste s.newviews.now s.l.views.now (view_size * s.row) s.at;
      bytes = refl;
    })

pub put_long-requires : goal.put_long-requires
put_long-requires c =
    let p = c.requires in
    let e = ap length c.value_part-value.ensures.0 ∙ length-shown _ _ _ _ _ _ _ p.source.0.starts p.source.0.lens
    (length-view _ _ p.source.0.row) p.source.1 in
    rw e (p.room.long (omega (arith, c.view_len.ensures)))

pub returns : goal.returns
returns c =
    row-long _ _ _ _ _ _ _ _ _ _ _ (omega (arith, c.view_len.ensures))
    c.value_part-value.ensures.0 c.put_long.ensures
