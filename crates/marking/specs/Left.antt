-- What is left of an answer from a place on, and what it means that a piece was written. Assumes nothing.
use Rattle.std.specs.Prelude.{List, [], ◌∷◌, ◌++◌, ℕ, suc, ◌+◌, ◌-◌, ◌≤◌, ltb, length, drop}
use Rattle.basis.specs.Pick.{pick}
use Rattle.column.specs.declared.Column.{Column}
use Rattle.column.specs.Lent.{Lent}
use Rattle.reading.specs.Reading.{value_at}
use Rattle.marks.specs.Marking.{marks_of}
use Rattle.listing.specs.Text.{refused_line}
use Rattle.listing.specs.Put.{Rest}
use Rattle.whole.specs.declared.Place.{Place}
use Rattle.whole.specs.declared.Place.TheVariants.{Refused, Opening, Line, Part, End}
use Rattle.whole.specs.declared.Piece.{Piece}
use Rattle.whole.specs.Rest.{steps}
use Rattle.marking.specs.Text.{mark_lines_at, tally_lines, tally_shown, marked_column}

-- row k and those after it, then the four counts
unfoldable pub marks_from : Lent → Column → ℕ → List ℕ
marks_from l c k = mark_lines_at l c k (c.rows - k) ++ tally_lines (tally_shown (marks_of l c))

-- of row k, what is left of its bytes at byte `at`, and its line end; then the rows after it. Past the rows there is nothing
unfoldable pub bytes_from : Lent → Column → ℕ → ℕ → List ℕ
bytes_from l c k at = pick (ltb k c.rows) (drop at (value_at l c k) ++ (10 ∷ marks_from l c (suc k))) []

abbrev pub marks_left : Lent → Column → Place → List ℕ
marks_left l c (Refused n) = refused_line n
marks_left l c Opening = marked_column l c
marks_left l c (Line k) = marks_from l c k
marks_left l c (Part k at) = bytes_from l c k at
marks_left l c End = []

-- what grows less with each piece
abbrev pub mark_weight : Lent → Column → Place → ℕ
mark_weight l c p = steps p + length (marks_left l c p)

-- a piece of a text stands at the start of a buffer: with what is left after it, it is the text; and it isn't empty, unless it is the last
pub record WroteMarks (l : Lent) (c : Column) (all out : List ℕ) (r : Piece) : Type 0 where
  pub stands : Rest out r.written (marks_left l c r.place) all
  pub moves : steps r.place ≤ r.written
