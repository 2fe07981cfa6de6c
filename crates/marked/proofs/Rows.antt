-- The marks of a column whose rows are all reached are those of its rows. Assumes nothing.
use Rattle.std.specs.Prelude.{Ok}
use mathlib.Core.Path.{◌≡◌, refl, sym, ap, ◌∙◌}
use mathlib.Core.Bool.{Bool, true, false}
use mathlib.Core.List.{List, [], ◌∷◌, ◌++◌}
use Prim.Native.Nat.{ℕ, zero, suc, ◌+◌, ◌≤◌, ◌<◌}
use native.Mathlib.Nat.{zero-add, add-zero}
use native.Mathlib.Omega.{arith}
use borrow.Author.Tests.{le-ltb}
use lib.ListN.{length}
use Rattle.basis.specs.Pick.{pick}
use Rattle.bounds.specs.Refusals.{refuse, accepted, Why, answered}
use Rattle.codes.specs.declared.Mark.{Mark}
use Rattle.codes.specs.declared.Mark.TheVariants.{Null, Other, Code, Date}
use Rattle.column.specs.declared.Column.{Column}
use Rattle.column.specs.Lent.{Lent, fits}
use Rattle.column.specs.Meaning.{shown_at, row_valid}
use Rattle.column.specs.Truth.{reachable_at}
use Rattle.column.proofs.LowestLaws.{lowest-none}
use Rattle.reading.specs.Reading.{why_run, why_row, why_value, bit_of, value_at}
use Rattle.reading.proofs.ReadingLaws.{value-reached}
use Rattle.marks.specs.Marking.{row_mark, mark_at, why_marks, is_mark, count_mark, marks_of}
use Rattle.whole.specs.Answer.{ShelfRow, row, bit_valid, shelf_row_at, rows_from, shelf_rows}
use Rattle.marking.specs.Text.{mark_line, mark_said, mark_lines, marks_in, tally_in, tally_lines, marked_rows, mark_shown, mark_line_at, mark_lines_at, tally_shown, marked_column}

-- ---- each row has one of the four marks

abbrev one : Mark → Mark → ℕ
one m n = pick (is_mark m n) 1 0

one-mark : (m : Mark) → one Date m + one Code m + one Other m + one Null m ≡ 1
one-mark Null = refl
one-mark Other = refl
one-mark Code = refl
one-mark Date = refl

pub all-marks : (rs : List ShelfRow) → marks_in Date rs + marks_in Code rs + marks_in Other rs + marks_in Null rs ≡ length rs
unfolding marks_in
all-marks [] = refl
all-marks (r ∷ rs) = omega (arith, one-mark (mark_said r), all-marks rs)

-- ---- a column

module _ (l : Lent) (c : Column) (f : fits l c ≡ true) (g : (r : ℕ) → r < c.rows → reachable_at l c r ≡ true) where
  accepts : (r : ℕ) → r < c.rows → why_value l c r ≡ accepted
  accepts r h = sym (value-reached l c r f h (g r h))

  whole_row : (r : ℕ) → r < c.rows → why_row l c r ≡ accepted
  unfolding why_row why_run refuse
  whole_row r h = rw (f, le-ltb c.rows (r + 1) (omega arith))

  bit_is : (t : Bool) → bit_valid (answered accepted t) ≡ t
  bit_is true = refl
  bit_is false = refl

  row_is : (r : ℕ) → r < c.rows → shelf_row_at l c r ≡ row (row_valid l c r) (shown_at l c r)
  unfolding bit_of value_at
  row_is r h = rw (whole_row r h, accepts r h) (ap (λ (t : Bool). row t (shown_at l c r)) (bit_is (row_valid l c r)))

  mark-is : (r : ℕ) → r < c.rows → row_mark l c r ≡ mark_said (shelf_row_at l c r)
  unfolding row_mark
  mark-is r h = ap mark_said (sym (row_is r h))

  shown-is : (r : ℕ) → r < c.rows → mark_shown (mark_at l c r) ≡ mark_said (shelf_row_at l c r)
  unfolding mark_at
  shown-is r h = ap (λ (w : Why). mark_shown (answered w (row_mark l c r))) (accepts r h) ∙ mark-is r h

  pub lines_are : (r n : ℕ) → r + n ≤ c.rows → mark_lines_at l c r n ≡ mark_lines (rows_from l c r n)
  unfolding mark_lines_at mark_lines rows_from
  lines_are r zero h = refl
  lines_are r (suc n) h =
      let a : mark_line_at l c r ≡ mark_line (mark_said (shelf_row_at l c r)) (value_at l c r) = ap (λ (m : Mark). mark_line m (value_at l c r))
      (shown-is r (omega arith)) in
      let t = lines_are (suc r) n (omega arith) in
      λ i. a i ++ t i

  counts-are : (m : Mark) (n k : ℕ) → n + k ≤ c.rows → count_mark l c m n + marks_in m (rows_from l c n k) ≡ count_mark l c m (n + k)
  unfolding count_mark marks_in rows_from
  counts-are m n zero h = rw (add-zero n) (omega arith)
  counts-are m n (suc k) h =
      let e : suc n + k ≡ n + suc k = omega arith in
      let a = ap (one m) (mark-is n (omega arith)) in
      let b : count_mark l c m (suc n) + marks_in m (rows_from l c (suc n) k) ≡ count_mark l c m (n + suc k) = counts-are m (suc n) k (omega arith)
      ∙ ap (count_mark l c m) e in
      omega (arith, a, b)

  count-is : (m : Mark) → count_mark l c m c.rows ≡ marks_in m (shelf_rows l c)
  unfolding count_mark
  count-is m =
      let a = counts-are m 0 c.rows (omega arith) in
      let z : count_mark l c m (0 + c.rows) ≡ count_mark l c m c.rows = ap (count_mark l c m) (zero-add c.rows) in
      omega (arith, a, z)

  why-is : why_marks l c ≡ accepted
  unfolding why_marks refuse
  why-is = rw f (sym (lowest-none (reachable_at l c) c.rows accepted g))

  pub tally-is : marks_of l c ≡ Ok (tally_in (shelf_rows l c))
  unfolding marks_of
  tally-is = rw why-is (λ i. Ok (record { nulls = count-is Null i; others = count-is Other i; codes = count-is Code i; dates = count-is Date i }))

  pub column-is : marked_column l c ≡ marked_rows (shelf_rows l c)
  unfolding marked_column marked_rows
  column-is = let a = lines_are 0 c.rows (omega arith) in λ i. a i ++ tally_lines (tally_shown (tally-is i))
