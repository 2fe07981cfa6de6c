use Rattle.std.proofs.Common.{◌≡◌, ◌<◌, refl, add-one, arith}
use Rattle.bounds.specs.Bounds.{row-limit-small}
use Rattle.column.specs.Meaning.{row_view}
use Rattle.column.specs.Room.{bare_of}
use Rattle.compaction.specs.Compact.{row_shown}
use Rattle.compaction.proofs.CutLaws.{stand-start}
use Rattle.compaction.proofs.LaidLaws.{laid_none, laid_next}
use Rattle.compaction.proofs.PassLaws.{row-there, row-reach, row_sized, row_in, filled}
use Rattle.compaction.proofs.write.Goals as goal

pub loop-k-init : goal.loop-k-init
loop-k-init c =
    let e = stand-start c.default-s.result c.default-s.ensures in
    record { views = refl; bytes = refl; laid = rw e (laid_none _ _ _ _ _) }

pub overflow_add-c : goal.overflow_add-c
overflow_add-c c = omega (arith, row-limit-small)

pub put_row-s-requires : goal.put_row-s-requires
put_row-s-requires c =
    let a = c.args in
    let p = c.requires in
    let l = c.loop-k in
    let h : l.k < a.c.rows = omega arith in
    record {
      source = (row-there a.most _ _ _ _ a.c _ _ p.source p.room l.k h, row-reach a.most _ _ _ _ a.c _ _ p.source p.room l.k h);
      room = row_in a.most _ _ _ _ a.c _ _ p.source p.room l.k h _ _ _ l.invariant.laid.stand l.invariant.views l.invariant.bytes;
    }

pub loop-k-preserved : goal.loop-k-preserved
loop-k-preserved c =
    let a = c.args in
    let p = c.requires in
    let l = c.loop-k in
    record {
      views = omega arith;
      bytes = omega arith;
      laid = rw (add-one l.k) (laid_next a.most (row_view (bare_of a.l) a.c) (row_shown (bare_of a.l) a.c) _ _ l.k _ _ l.s _ _ _
          (λ r g. row_sized a.most _ _ _ _ a.c _ _ p.source p.room r (omega arith)) l.invariant.laid c.put_row-s.ensures);
    }

pub returns : goal.returns
returns c =
    let p = c.requires in
    let q : c.loop-k.k ≡ c.args.c.rows = omega arith in
    filled _ _ _ _ _ _ _ _ p.source p.room _ _ _ (rw q at c.loop-k.invariant.laid)
