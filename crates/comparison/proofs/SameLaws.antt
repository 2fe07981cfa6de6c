-- Whether two columns are the same, row by row. Assumes nothing.
use Rattle.std.specs.Prelude.{Ok, Err}
use mathlib.Core.Path.{◌≡◌, refl, sym, ap}
use mathlib.Core.Bool.{Bool, true, false, not, ◌&&◌, beq}
use mathlib.Core.List.{List}
use Prim.Native.Nat.{ℕ, zero, suc, ◌+◌, ◌<◌}
use native.Mathlib.Nat.{not-suc-le-zero}
use native.Mathlib.Numerals.{add-one}
use native.Mathlib.Omega.{arith}
use borrow.Author.Tests.{not-false}
use Rattle.order.specs.Order.{same}
use Rattle.order.proofs.OrderLaws.{Tri, tri, below, level, above}
use Rattle.null_bits.specs.Bits as bits
use Rattle.bounds.specs.Refusals.{refuse, is_accepted, accepted-both, accepted, Why}
use Rattle.bounds.specs.declared.Refusal.TheVariants.{Fit}
use Rattle.column.specs.declared.Column.{Column}
use Rattle.column.specs.Lent.{Lent, lent, fits, in_data, data_room}
use Rattle.column.specs.Room.{bare}
use Rattle.column.proofs.FitLaws.{fits_gives}
use Rattle.column.specs.Meaning.{shown_at, row_valid, row_view, blocks_of, shown}
use Rattle.column.specs.Truth.{reach_of, reachable, reachable_at, lowest}
use Rattle.column.proofs.LowestLaws.{lowest-good}
use Rattle.comparison.specs.Same.{why_all, why_same, alike, same_row, same_rows}
use Rattle.comparison.specs.Readable.{RowsInRoom, AllComparable}
use Rattle.comparison.specs.VerdictLaws.{both-accepted}

-- the null map has no part in which rows are reachable
pub judged-bare : (views bytes starts lens nulls : List ℕ) (c : Column) (n : ℕ) (w : Why)
    → lowest (reachable_at (bare views bytes starts lens) c) n w ≡ lowest (reachable_at (lent views bytes starts lens nulls) c) n w
unfolding reachable reach_of in_data data_room
judged-bare views bytes starts lens nulls c n w = refl

-- the rows of a column that fits are there
pub rows-in-room : (views bytes starts lens nulls : List ℕ) (c : Column) → fits (lent views bytes starts lens nulls) c ≡ true → RowsInRoom views starts lens c
rows-in-room views bytes starts lens nulls c h =
    let g = fits_gives views bytes starts lens nulls c h in
    record { limit = g.rows; views = g.views; starts = g.starts; lens = g.lens }

module _ (l : Lent) (c : Column) where
  pub all-unfit : not (fits l c) ≡ true → Err Fit ≡ why_all l c
  unfolding why_all refuse
  all-unfit h = rw h

  pub all-judged : (w : Why) → not (fits l c) ≡ false → w ≡ lowest (reachable_at l c) c.rows accepted → w ≡ why_all l c
  unfolding why_all refuse
  all-judged w h e = rw h e

  all-reached : is_accepted (why_all l c) ≡ true → (fits l c ≡ true) × ((r : ℕ) → r < c.rows → reachable_at l c r ≡ true)
  unfolding why_all
  all-reached h =
      let p = accepted-both Fit (not (fits l c)) _ h in
      (not-false _ p.0, (lowest-good (reachable_at l c) c.rows accepted p.1).0)

module _ (l : Lent) (c : Column) (m : Lent) (d : Column) where
  module _ (r : ℕ) (v w : Bool) (hv : v ≡ bits.valid_at l.nulls c.mapped (c.first + r)) (hw : w ≡ bits.valid_at m.nulls d.mapped
      (d.first + r)) where
    pub bits-differ : not (beq v w) ≡ true → false ≡ same_row l c m d r
    unfolding same_row row_valid alike
    bits-differ ne = rw (← hv, ← hw) (by v w ne)
      where
        by : (v w : Bool) → not (beq v w) ≡ true → false ≡ (alike v w && same (shown_at l c r) (shown_at m d r))
        by true true ne = let z : ◌≡◌ {A = ℕ} 0 1 = cc in absurd (omega arith)
        by true false ne = refl
        by false true ne = refl
        by false false ne = let z : ◌≡◌ {A = ℕ} 0 1 = cc in absurd (omega arith)

    pub bits-alike : not (beq v w) ≡ false → (t : Bool) → t ≡ same (shown (blocks_of l c.blocks) (row_view l c r))
        (shown (blocks_of m d.blocks) (row_view m d r)) → t ≡ same_row l c m d r
    unfolding same_row row_valid shown_at alike
    bits-alike e t h = rw (← hv, ← hw, ← h) (by v w e)
      where
        by : (v w : Bool) → not (beq v w) ≡ false → t ≡ (alike v w && t)
        by true true e = refl
        by true false e = let z : ◌≡◌ {A = ℕ} 0 1 = cc in absurd (omega arith)
        by false true e = let z : ◌≡◌ {A = ℕ} 0 1 = cc in absurd (omega arith)
        by false false e = refl

  both_true : (a b : Bool) → a ≡ true → b ≡ true → a && b ≡ true
  both_true a b e h = rw (e, h)

  last-false : (a b : Bool) → b ≡ false → false ≡ a && b
  last-false true b e = sym e
  last-false false b e = refl

  pub row-alike : (k : ℕ) → same_rows l c m d k ≡ true → same_row l c m d k ≡ true → same_rows l c m d (k + 1) ≡ true
  unfolding same_rows
  row-alike k h e = rw (add-one k) (both_true (same_rows l c m d k) (same_row l c m d k) h e)

  pub row-differs : (k n : ℕ) → k < n → same_row l c m d k ≡ false → false ≡ same_rows l c m d n
  unfolding same_rows
  row-differs k zero h e = absurd (not-suc-le-zero h)
  row-differs k (suc n) h e = by (tri k n) (λ g. row-differs k n g e)
    where
      by : Tri k n → (k < n → false ≡ same_rows l c m d n) → false ≡ (same_rows l c m d n && same_row l c m d n)
      by (below g) more = rw (← more g)
      by (level q) more = last-false (same_rows l c m d n) (same_row l c m d n) (rw (← q) e)
      by (above g) more = absurd (omega arith)

  -- what is known where the question is answered
  pub all-comparable : why_same l c m d ≡ Ok tt → AllComparable l c m d
  unfolding why_same
  all-comparable h =
      let p = both-accepted (why_all l c) (why_all m d) h in
      let q = all-reached l c (ap is_accepted p.0) in
      let r = all-reached m d (ap is_accepted p.1) in
      record { fit = q.0; fit2 = r.0; reach = q.1; reach2 = r.1 }
