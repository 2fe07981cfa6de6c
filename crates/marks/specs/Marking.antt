-- The mark of each row of a column, and how many rows have each mark: why the calls refuse, and what they answer. Assumes nothing.
use Rattle.bounds.specs.declared.Refusal.{Refusal}
use Rattle.std.specs.Prelude.{Bool, not, ℕ, zero, suc, ◌+◌, eqb, Result}
use Rattle.basis.specs.Pick.{pick}
use Rattle.bounds.specs.Refusals.{refuse, accepted, Why, answered}
use Rattle.bounds.specs.declared.Refusal.TheVariants.{Fit}
use Rattle.column.specs.declared.Column.{Column}
use Rattle.column.specs.Lent.{Lent, fits}
use Rattle.column.specs.Meaning.{shown_at, row_valid}
use Rattle.column.specs.Truth.{reachable_at, lowest}
use Rattle.reading.specs.Reading.{why_value}
use Rattle.codes.specs.declared.Mark.{Mark}
use Rattle.codes.specs.declared.Mark.TheVariants.{Null, Other, Code, Date}
use Rattle.codes.specs.Marks.{mark_of, mark_number}
use Rattle.marks.specs.declared.Tally.{Tally}

-- a null row is neither a code nor not
unfoldable pub row_mark : Lent → Column → ℕ → Mark
row_mark l c r = pick (row_valid l c r) (mark_of (shown_at l c r)) Null

-- 2, 3, 11 as for reading, under a null too
unfoldable pub mark_at : Lent → Column → ℕ → Result Mark Refusal
mark_at l c r = answered (why_value l c r) (row_mark l c r)

-- 2, 11
unfoldable pub why_marks : Lent → Column → Why
why_marks l c = refuse Fit (not (fits l c)) (lowest (reachable_at l c) c.rows accepted)

abbrev pub is_mark : Mark → Mark → Bool
is_mark m n = eqb (mark_number m) (mark_number n)

-- how many of the first n rows have the mark m
unfoldable pub count_mark : Lent → Column → Mark → ℕ → ℕ
count_mark l c m zero = 0
count_mark l c m (suc n) = count_mark l c m n + pick (is_mark m (row_mark l c n)) 1 0

abbrev pub tally_of : Lent → Column → ℕ → Tally
tally_of l c n = record { nulls = count_mark l c Null n; others = count_mark l c Other n; codes = count_mark l c Code n; dates = count_mark l c Date n }

unfoldable pub marks_of : Lent → Column → Result Tally Refusal
marks_of l c = answered (why_marks l c) (tally_of l c c.rows)
