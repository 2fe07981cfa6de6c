-- The program's answer: the bytes that it writes, of the bytes that it reads. Assumes nothing.
use Rattle.bounds.specs.declared.Refusal.{Refusal}
use Rattle.std.specs.Prelude.{List, [], ◌∷◌, ◌++◌, map, ℕ, zero, suc, ◌+◌, ltb, eqb, length, Result}
use Rattle.std.specs.Result.{result_unwrap_or}
use Rattle.basis.specs.Pick.{pick}
use Rattle.codes.specs.Ascii.{ascii}
use Rattle.codes.specs.declared.Mark.{Mark}
use Rattle.codes.specs.declared.Mark.TheVariants.{Null, Other, Code, Date}
use Rattle.codes.specs.Marks.{mark_of}
use Rattle.column.specs.declared.Column.{Column}
use Rattle.column.specs.Lent.{Lent}
use Rattle.reading.specs.Reading.{value_at}
use Rattle.marks.specs.declared.Tally.{Tally}
use Rattle.marks.specs.Marking.{mark_at, is_mark, marks_of}
use Rattle.listing.specs.Text.{number_line, refused_line}
use Rattle.shelf.specs.Lines.{lines, first_bad_line}
use Rattle.whole.specs.Answer.{ShelfRow, row_said, input_most}

abbrev pub mark_name : Mark → List ℕ
mark_name Null = ascii "null="
mark_name Other = ascii "other="
mark_name Code = ascii "code="
mark_name Date = ascii "date="

-- a row's line: its mark's name, its bytes as they came, a line end; nothing follows `null=`, for the line of a null row has no more
unfoldable pub mark_line : Mark → List ℕ → List ℕ
mark_line m x = mark_name m ++ (x ++ 10 ∷ [])

-- the mark of a row: a null row is neither a code nor not
abbrev pub mark_said : ShelfRow → Mark
mark_said r = pick r.valid (mark_of r.value) Null

-- a line for each row
unfoldable pub mark_lines : List ShelfRow → List ℕ
mark_lines [] = []
mark_lines (r ∷ rs) = mark_line (mark_said r) r.value ++ mark_lines rs

-- the rows that have the mark m
unfoldable pub marks_in : Mark → List ShelfRow → ℕ
marks_in m [] = 0
marks_in m (r ∷ rs) = pick (is_mark m (mark_said r)) 1 0 + marks_in m rs

abbrev pub tally_in : List ShelfRow → Tally
tally_in rs = record { nulls = marks_in Null rs; others = marks_in Other rs; codes = marks_in Code rs; dates = marks_in Date rs }

-- the four counts, a line each
unfoldable pub tally_lines : Tally → List ℕ
tally_lines t =
    number_line (ascii "dates=") t.dates
    ++ (number_line (ascii "codes=") t.codes ++ (number_line (ascii "others=") t.others ++ number_line (ascii "nulls=") t.nulls))

-- the rows, then the four counts
unfoldable pub marked_rows : List ShelfRow → List ℕ
marked_rows rs = mark_lines rs ++ tally_lines (tally_in rs)

-- the first bad line, or the rows
unfoldable pub marked_lines : List (List ℕ) → List ℕ
marked_lines ls = pick (eqb (first_bad_line 0 ls) 0) (marked_rows (map row_said ls)) (refused_line (first_bad_line 0 ls))

-- more input is refused before any line is read
unfoldable pub marked_answer : List ℕ → List ℕ
marked_answer s = pick (ltb input_most (length s)) (refused_line 0) (marked_lines (lines s))

-- ---- the same of a column

-- a row that is refused has no value, and is no code
abbrev pub mark_shown : Result Mark Refusal → Mark
mark_shown m = result_unwrap_or m Other

abbrev pub mark_line_at : Lent → Column → ℕ → List ℕ
mark_line_at l c r = mark_line (mark_shown (mark_at l c r)) (value_at l c r)

-- n rows from row r on
unfoldable pub mark_lines_at : Lent → Column → ℕ → ℕ → List ℕ
mark_lines_at l c r zero = []
mark_lines_at l c r (suc n) = mark_line_at l c r ++ mark_lines_at l c (suc r) n

-- a column that is refused has no counts
abbrev pub no_tally : Tally
no_tally = record { nulls = 0; others = 0; codes = 0; dates = 0 }

abbrev pub tally_shown : Result Tally Refusal → Tally
tally_shown t = result_unwrap_or t no_tally

unfoldable pub marked_column : Lent → Column → List ℕ
marked_column l c = mark_lines_at l c 0 c.rows ++ tally_lines (tally_shown (marks_of l c))
