-- Same column: equal row counts and, at each row, equal null bits and equal shown values. Assumes nothing.
use Rattle.comparison.specs.declared.Side.{Side}
use Rattle.std.specs.Prelude.{Bool, true, false, not, ◌&&◌, ℕ, zero, suc, eqb, Result, ⊤}
use Rattle.order.specs.Order.{same}
use Rattle.bounds.specs.Refusals.{refuse, accepted, Why, answered}
use Rattle.bounds.specs.declared.Refusal.TheVariants.{Fit}
use Rattle.column.specs.declared.Column.{Column}
use Rattle.column.specs.Lent.{Lent, fits}
use Rattle.column.specs.Meaning.{shown_at, row_valid}
use Rattle.column.specs.Truth.{reachable_at, lowest}
use Rattle.comparison.specs.Compare.{both_of}

-- 2, 11: every row
unfoldable pub why_all : Lent → Column → Why
why_all l c = refuse Fit (not (fits l c)) (lowest (reachable_at l c) c.rows accepted)

-- of both, also where the row counts differ
unfoldable pub why_same : Lent → Column → Lent → Column → Result ⊤ Side
why_same l c m d = both_of (why_all l c) (why_all m d)

unfoldable pub alike : Bool → Bool → Bool
alike true b = b
alike false b = not b

unfoldable pub same_row : Lent → Column → Lent → Column → ℕ → Bool
same_row l c m d r = alike (row_valid l c r) (row_valid m d r) && same (shown_at l c r) (shown_at m d r)

unfoldable pub same_rows : Lent → Column → Lent → Column → ℕ → Bool
same_rows l c m d zero = true
same_rows l c m d (suc n) = same_rows l c m d n && same_row l c m d n

unfoldable pub same_column : Lent → Column → Lent → Column → Result Bool Side
same_column l c m d = answered (why_same l c m d) (eqb c.rows d.rows && same_rows l c m d c.rows)
