-- What is written of each row is its mark and the line that came in. Assumes nothing.
use Rattle.std.specs.Prelude.{Ok}
use mathlib.Core.Path.{◌≡◌, refl, ap, ◌∙◌}
use mathlib.Core.Bool.{Bool, true, false, not, true≢false}
use mathlib.Core.List.{List, ◌∷◌, [], ◌++◌, map}
use Prim.Native.Nat.{ℕ, ◌<◌}
use native.Mathlib.Omega.{arith}
use borrow.Author.Tests.{le-ltb}
use lib.ListN.{length, length-map}
use Rattle.column.specs.declared.Column.{Column}
use Rattle.column.specs.Lent.{Lent, fits}
use Rattle.column.specs.Truth.{reachable_at}
use Rattle.reading.specs.Reading.{why_value}
use Rattle.showing.specs.Rooms.{passed}
use Rattle.validity.specs.Check.{why_invalid}
use Rattle.promise.specs.Calls.{Cell}
use Rattle.promise.specs.Kept.{Shown}
use Rattle.promise.proofs.Kept.{kept}
use Rattle.shelf.specs.declared.Line.TheVariants.{Null}
use Rattle.shelf.specs.Lines.{lines, says, null_mark}
use Rattle.shelf.specs.Adding.{built, shelf_lent, shelf_column}
use Rattle.whole.specs.Answer.{row_said, input_most}
use Rattle.marking.specs.Text.{mark_line, mark_said, mark_lines, tally_in, marked_rows, marked_lines, marked_answer}
use Rattle.answering.specs.Rows.{cell_of_line}
use Rattle.answering.specs.Listed.{Enough, GoodInput, LinesListed}
use Rattle.answering.proofs.Added.{null-empty}
use Rattle.answering.proofs.Listed.{listed}
use Rattle.marked.specs.Marked.{rows_said, LinesMarked}
use Rattle.marked.proofs.Rows.{all-marks, lines_are, tally-is, column-is}

-- `null=` stands alone
pub null-line : (l : List ℕ) → says l ≡ Null → mark_line (mark_said (row_said l)) (row_said l).value ≡ null_mark ++ 10 ∷ []
unfolding mark_line
null-line l e = rw (e, null-empty l e)

was-true : (t : Bool) → not t ≡ false → t ≡ true
was-true true e = refl
was-true false e = absurd (true≢false e)

-- a column that shows its cells fits, and every row is reached
module _ (xs : List Cell) (l : Lent) (c : Column) (w : Shown xs l c) where
  shown-fits : fits l c ≡ true
  unfolding why_invalid
  shown-fits = was-true (fits l c) (passed _ _ _ w.checks).0

  shown-reach : (r : ℕ) → r < c.rows → reachable_at l c r ≡ true
  unfolding why_value
  shown-reach r h =
      let a = w.accepts r (omega (arith, w.rows)) in
      was-true (reachable_at l c r) (passed _ _ _ (passed _ _ _ (passed _ _ _ a).1).1).0

module _ (s vs bs ss ns ms ps : List ℕ) (e : Enough vs bs ss ns ms) (g : GoodInput s) where
  abbrev l : Lent
  l = shelf_lent (built s vs bs ss ns ms ps)

  abbrev c : Column
  c = shelf_column (built s vs bs ss ns ms ps)

  told : LinesListed s vs bs ss ns ms ps
  told = listed s vs bs ss ns ms ps e g

  shown : Shown (map cell_of_line (lines s)) l c
  shown = kept.shows _ told.filed

  accepted-is : marked_rows (rows_said s) ≡ marked_answer s
  unfolding marked_answer marked_lines
  accepted-is = rw (le-ltb input_most (length s) g.size, g.lines)

  pub marked : LinesMarked s vs bs ss ns ms ps
  marked =
      let f = shown-fits _ l c shown in
      let h = shown-reach _ l c shown in
      let r = told.shows.rows in
      record {
        rows = lines_are l c f h 0 c.rows (omega arith) ∙ ap mark_lines r;
        counts = tally-is l c f h ∙ ap (λ z. Ok (tally_in z)) r;
        whole = all-marks (rows_said s) ∙ length-map (lines s) row_said;
        answers = column-is l c f h ∙ (ap marked_rows r ∙ accepted-is);
      }
