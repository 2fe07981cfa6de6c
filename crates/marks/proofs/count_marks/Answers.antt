-- `marks::count_marks` meets its contract. The invariant: the rows passed are tallied, and the view of each is reachable. Assumes nothing.
use mathlib.Core.Bool.{true}
use mathlib.Core.Path.{◌≡◌, sym, ◌∙◌}
use Prim.Native.Nat.{ℕ}
use native.Mathlib.Omega.{arith}
use borrow.Author.Count.{below_more}
use Rattle.bounds.specs.Bounds.{row-limit-small}
use Rattle.column.proofs.FitLaws.{fits_gives, fits-row, fits-view}
use Rattle.column.specs.Lent.{lent_of}
use Rattle.column.specs.Meaning.{row_valid}
use Rattle.column.proofs.ReachLaws.{spot-bare}
use Rattle.column.proofs.SpotLaws.{found-lies, found-reach}
use Rattle.column.specs.Truth.{reachable_at}
use Rattle.marks.specs.MarkingLaws.{stands-mark, fits-bit, tally-empty, tally-more, tally-room}
use Rattle.marks.proofs.AnswerLaws.{marks-unfit, marks-bad, marks-are}
use Rattle.marks.proofs.count_marks.Goals as goal

pub returns-then-not-fits : goal.returns-then-not-fits
returns-then-not-fits c = marks-unfit _ _ (sym c.fits.ensures ∙ c.if-not-fits.true)

pub loop-k-init : goal.loop-k-init
loop-k-init c = (tally-empty _ _ _ c.default-t.ensures, λ r h. absurd (omega arith))

pub overflow_add-at : goal.overflow_add-at
overflow_add-at c = let g = fits_gives _ _ _ _ _ _ (sym c.fits.ensures
    ∙ c.if-not-fits.false) in
    omega (arith, row-limit-small)

pub spot_at-s-requires : goal.spot_at-s-requires
spot_at-s-requires c = fits-row _ _ _ _ _ _ _ (sym c.fits.ensures
    ∙ c.if-not-fits.false) (omega arith)

pub returns-then-not-is_reached : goal.returns-then-not-is_reached
returns-then-not-is_reached c = marks-bad _ _ (sym c.fits.ensures
    ∙ c.if-not-fits.false) _ (omega arith)
    c.loop-k.invariant.1
    (sym (found-reach _ _ _ _ _ _ _ (c.spot_at-s.ensures ∙ spot-bare _ _ _ _ _ _ _ _))
    ∙ sym c.is_reached.ensures ∙ c.if-not-is_reached.true)

pub valid_at-valid-requires : goal.valid_at-valid-requires
valid_at-valid-requires c = λ m. let g = fits-bit _ _ c.loop-k.k
    (sym c.fits.ensures
    ∙ c.if-not-fits.false) (omega arith) m in omega arith

pub add_there-t-requires : goal.add_there-t-requires
add_there-t-requires c =
    let fit = sym c.fits.ensures
    ∙ c.if-not-fits.false in
    let g = fits_gives _ _ _ _ _ _ fit in (
      found-lies _ _ c.args.l.nulls.now _ _ _ _
          (c.spot_at-s.ensures ∙ spot-bare _ _ _ _ _ _ _ _) (fits-view _ _ _ _ _ _ fit (omega arith)),
      tally-room _ _ _ _ c.loop-k.invariant.0 (omega arith),
    )

pub loop-k-preserved : goal.loop-k-preserved
unfolding row_valid
loop-k-preserved c =
    let s = c.args in
    let stands = c.spot_at-s.ensures ∙ spot-bare _ _ _ _ _ _ _ _ in
    let reached = sym c.is_reached.ensures ∙ c.if-not-is_reached.false in (
      tally-more _ _ _ _ _ _ c.loop-k.invariant.0 (stands-mark _ _ _ _ _ _ _ stands reached _ c.valid_at-valid.ensures) c.add_there-t.ensures,
      below_more (λ (r : ℕ). reachable_at (lent_of s.l) s.c r ≡ true) _ c.loop-k.invariant.1
          (sym (found-reach _ _ _ _ _ _ _ stands) ∙ reached),
    )

pub returns : goal.returns
returns c = marks-are _ _ (sym c.fits.ensures
    ∙ c.if-not-fits.false) _ (omega arith)
    c.loop-k.invariant.1 _ c.loop-k.invariant.0
