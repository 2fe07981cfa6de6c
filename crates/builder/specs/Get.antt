-- The value of a row while it is built, the open block under the next number. Assumes nothing.
use Rattle.std.specs.Prelude.{not, List, [], ℕ, leb}
use Rattle.bounds.specs.Refusals.{refuse, if_accepted, accepted, Why}
use Rattle.bounds.specs.declared.Refusal.TheVariants.{Fit, Row, BadView}
use Rattle.column.specs.declared.Column.{Column}
use Rattle.column.specs.Meaning.{shown_at}
use Rattle.column.specs.Truth.{reachable_at}
use Rattle.builder.specs.State.{Builder, all_blocks, fits_state, recorded}

-- all rows so far, the open block last; it has a map exactly when it has a null
abbrev pub column_of : Builder → Column
column_of b =
    let s = b.state in
    record { first = 0; rows = s.rows; blocks = all_blocks s; kind = s.kind; mapped = s.nulled }

unfoldable pub why_get : Builder → ℕ → Why
why_get b r =
    refuse Fit (not (fits_state b))
    (refuse Row (leb b.state.rows r)
    (refuse (BadView r) (not (reachable_at (recorded b.state b.lent) (column_of b) r)) accepted))

unfoldable pub get_value : Builder → ℕ → List ℕ
get_value b r = if_accepted (why_get b r) (shown_at (recorded b.state b.lent) (column_of b) r) []
