use Rattle.std.proofs.Common.{◌≡◌, ◌+◌, refl, sym, ◌∙◌, arith}
use Rattle.bounds.specs.Bounds.{row-limit-small}
use Rattle.views.specs.View.{view_at}
use Rattle.compaction.proofs.CutLaws.{stand-start}
use Rattle.compaction.proofs.LaidLaws.{tabled-none, tabled_step}
use Rattle.compaction.proofs.PassLaws.{table-in, few-at, listed-none, listed-some}
use Rattle.compaction.proofs.write_table.Goals as goal

pub loop-k-init : goal.loop-k-init
loop-k-init c =
    let e = stand-start c.default-s.result c.default-s.ensures in
    record { starts = refl; lens = refl; tabled = rw e (tabled-none _ _ _ _) }

pub overflow_add-c : goal.overflow_add-c
overflow_add-c c = omega (arith, row-limit-small)

pub put_record-s-requires : goal.put_record-s-requires
put_record-s-requires c =
    let p = c.requires in
    let l = c.loop-k in
    let g = few-at _ _ _ _ _ p.2 l.k (omega arith) l.s l.invariant.tabled.stand in
    let v = c.view_len-n.ensures in (
      record { bytes = omega arith; blocks = omega arith },
      λ h. let t = table-in _ _ _ _ _ p.2 l.k (omega arith) l.s l.invariant.tabled.stand (omega arith) in (omega arith, omega arith),
    )

pub loop-k-preserved : goal.loop-k-preserved
loop-k-preserved c =
    let a = c.args in
    let p = c.requires in
    let l = c.loop-k in
    record {
      starts = omega arith;
      lens = omega arith;
      tabled = tabled_step a.most (λ r. view_at a.views.now (a.c.first + r)) _ _ l.k _ _ _ l.s _ _ _ c.view_len-n.ensures.0 l.invariant.tabled
          (table-in _ _ _ _ _ p.2 l.k (omega arith) l.s l.invariant.tabled.stand) c.put_record-s.ensures;
    }

pub bytes-requires : goal.bytes-requires
bytes-requires c =
    let g = few-at _ _ _ _ _ c.requires.2 c.loop-k.k (omega arith) c.loop-k.s c.loop-k.invariant.tabled.stand in
    record { bytes = omega arith; blocks = omega arith }

pub returns-then-bytes-ne0 : goal.returns-then-bytes-ne0
returns-then-bytes-ne0 c =
    let l = c.loop-k in
    let q : l.k ≡ c.args.c.rows = omega arith in
    listed-some _ _ _ _ _ c.requires.2 l.newstarts l.newlens l.s (rw q at l.invariant.tabled) (λ e. c.if-bytes-ne0.true (c.bytes.ensures ∙ e))

pub returns-else-bytes-ne0 : goal.returns-else-bytes-ne0
returns-else-bytes-ne0 c =
    let l = c.loop-k in
    let q : l.k ≡ c.args.c.rows = omega arith in
    listed-none _ _ _ _ _ c.requires.2 l.newstarts l.newlens l.s (rw q at l.invariant.tabled) (sym c.bytes.ensures ∙ c.if-bytes-ne0.false)
