-- What is written of each row is its mark and the line that came in: the statement. Assumes nothing.
use Rattle.std.specs.Prelude.{◌≡◌, List, map, ℕ, ◌+◌, length, Ok}
use Rattle.codes.specs.declared.Mark.TheVariants.{Null, Other, Code, Date}
use Rattle.marks.specs.Marking.{marks_of}
use Rattle.shelf.specs.Lines.{lines}
use Rattle.shelf.specs.Adding.{built, shelf_lent, shelf_column}
use Rattle.whole.specs.Answer.{ShelfRow, row_said}
use Rattle.marking.specs.Text.{mark_lines, marks_in, tally_in, mark_lines_at, marked_column, marked_answer}

abbrev pub rows_said : List ℕ → List ShelfRow
rows_said s = map row_said (lines s)

pub record LinesMarked (s vs bs ss ns ms ps : List ℕ) : Type 0 where
  -- each row's mark is that of its line's bytes, and the bytes are as they came
  pub rows : mark_lines_at (shelf_lent (built s vs bs ss ns ms ps)) (shelf_column (built s vs bs ss ns ms ps)) 0
      (shelf_column (built s vs bs ss ns ms ps)).rows ≡ mark_lines (rows_said s)
  -- the four counts are those of the lines
  pub counts : marks_of (shelf_lent (built s vs bs ss ns ms ps)) (shelf_column (built s vs bs ss ns ms ps)) ≡ Ok (tally_in (rows_said s))
  -- and add up to them
  pub whole : marks_in Date (rows_said s) + marks_in Code (rows_said s) + marks_in Other (rows_said s) + marks_in Null (rows_said s) ≡ length (lines s)
  -- what is written of the column is the answer
  pub answers : marked_column (shelf_lent (built s vs bs ss ns ms ps)) (shelf_column (built s vs bs ss ns ms ps)) ≡ marked_answer s
