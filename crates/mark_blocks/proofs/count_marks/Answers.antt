-- `mark_blocks::count_marks` meets its contract. The invariant: the rows passed are tallied, and the view of each is reachable. Assumes nothing.
use Rattle.std.proofs.Common.{◌≡◌, true, sym, ◌∙◌, ℕ, arith, below_more}
use Rattle.reading.proofs.ReadingLaws.{handed-on}
use Rattle.column.proofs.FitLaws.{fits-limit}
use Rattle.column.specs.Lent.{buffers}
use Rattle.column.specs.Truth.{reachable_at}
use Rattle.marks.specs.MarkingLaws.{tally-empty, tally-more, tally-room}
use Rattle.marks.proofs.AnswerLaws.{marks-unfit, marks-bad, marks-are}
use Rattle.mark_blocks.proofs.RowLaws.{is-marked, is-refused}
use Rattle.mark_blocks.proofs.count_marks.Goals as goal

pub returns-then-not-fits_with : goal.returns-then-not-fits_with
returns-then-not-fits_with c = marks-unfit _ _ (sym (c.fits_with.ensures.1 _ c.args.table.now c.count.ensures) ∙ c.if-not-fits_with.true)

pub loop-k-init : goal.loop-k-init
loop-k-init c = (tally-empty _ _ _ c.default-t.ensures, λ r h. absurd (omega arith))

pub returns-in_err-m : goal.returns-in_err-m
returns-in_err-m c =
    let fit = sym (c.fits_with.ensures.1 c.args.bytes.now c.args.table.now c.count.ensures) ∙ c.if-not-fits_with.false in
    let bad = is-refused _ _ _ fit c.loop-k-test.true _ c.mark_at.ensures _ c.in_err-m.was in
    handed-on _ _ _ c.from_residual.ensures.1 (rw bad.1 (marks-bad _ _ fit _ c.loop-k-test.true c.loop-k.invariant.1 bad.0))

pub with-t-requires : goal.with-t-requires
with-t-requires c =
    let fit = sym (c.fits_with.ensures.1 c.args.bytes.now c.args.table.now c.count.ensures) ∙ c.if-not-fits_with.false in
    let low = fits-limit _ _ _ _ _ _ fit c.loop-k-test.true in
    tally-room _ _ _ _ c.loop-k.invariant.0 (omega arith)

pub loop-k-preserved : goal.loop-k-preserved
loop-k-preserved c =
    let s = c.args in
    let fit = sym (c.fits_with.ensures.1 s.bytes.now s.table.now c.count.ensures) ∙ c.if-not-fits_with.false in
    let good = is-marked _ _ _ fit c.loop-k-test.true _ c.mark_at.ensures _ c.in_ok-m.was in (
      tally-more _ _ _ _ _ _ c.loop-k.invariant.0 good.1 c.with-t.ensures,
      below_more (λ (r : ℕ). reachable_at (buffers s.views.now s.bytes.now s.table.now s.nulls.now) s.c r ≡ true) _ c.loop-k.invariant.1 good.0,
    )

pub returns : goal.returns
returns c =
    let fit = sym (c.fits_with.ensures.1 c.args.bytes.now c.args.table.now c.count.ensures) ∙ c.if-not-fits_with.false in
    marks-are _ _ fit _ (omega arith) c.loop-k.invariant.1 _ c.loop-k.invariant.0
