-- `growth::next_size` meets its contract. The loop's invariant: `before` is the size after k steps, and `s` is none of those before. Assumes nothing.
use mathlib.Core.Path.{◌≡◌, refl, ◌∙◌}
use native.Mathlib.Numerals.{add-one}
use native.Mathlib.Omega.{arith}
use borrow.Author.Tests.{ne_eqb}
use Rattle.growth.specs.Growing.{start_size, sheet, next_size, size_after, reached_in}
use Rattle.growth.specs.GrowthLaws.{none_more, sheet-is, size-reached, size_none}
use Rattle.growth.proofs.next_size.Goals as goal

pub loop-k-init : goal.loop-k-init
unfolding start_size size_after reached_in
loop-k-init c = (omega arith, refl, refl)

pub offset_bounds-k : goal.offset_bounds-k
offset_bounds-k c = omega arith

pub bounds-k : goal.bounds-k
bounds-k c = omega arith

pub returns-then-s-before : goal.returns-then-s-before
unfolding sheet
returns-then-s-before c =
    let l = c.loop-k in
    sheet-is l.k (omega arith) ∙ size-reached _ l.k (omega arith) (c.if-s-before.true ∙ l.invariant.1)

pub overflow_step-k : goal.overflow_step-k
overflow_step-k c = omega arith

pub loop-k-smaller : goal.loop-k-smaller
loop-k-smaller c = omega arith

pub loop-k-preserved : goal.loop-k-preserved
unfolding sheet
loop-k-preserved c =
    let l = c.loop-k in
    rw (add-one l.k)
    (omega arith, sheet-is l.k (omega arith), none_more l.k _ l.invariant.2 (rw l.invariant.1 at (ne_eqb _ _ c.if-s-before.false)))

pub returns-then-s-before-2 : goal.returns-then-s-before-2
unfolding start_size next_size size_after
returns-then-s-before-2 c =
    let l = c.loop-k in
    let e : l.k ≡ 8 = omega arith in
    let last : l.before ≡ size_after 8 = rw e at l.invariant.1 in
    last ∙ size-reached _ 8 (omega arith) (c.if-s-before-2.true ∙ last)

pub returns : goal.returns
returns c =
    let l = c.loop-k in
    let e : l.k ≡ 8 = omega arith in
    let last : l.before ≡ size_after 8 = rw e at l.invariant.1 in
    size_none _ (none_more 8 _ (rw e at l.invariant.2) (rw last at (ne_eqb _ _ c.if-s-before-2.false)))
