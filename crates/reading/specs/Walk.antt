-- The row walk by a cursor: the value at its place, and the step to the next row. Assumes nothing.
use Rattle.std.specs.Prelude.{List, ℕ, ◌+◌}
use Rattle.bounds.specs.Refusals.{if_accepted}
use Rattle.column.specs.declared.Column.{Column}
use Rattle.column.specs.Lent.{Lent}
use Rattle.reading.specs.declared.Cursor.{Cursor}
use Rattle.reading.specs.declared.Step.{Step}
use Rattle.reading.specs.Reading.{why_value, value_at}

abbrev pub cursor : ℕ → Cursor
cursor r = record { at = r }

-- before the first row
unfoldable pub walk_start : Cursor
walk_start = cursor 0

unfoldable pub walk_value : Lent → Column → Cursor → List ℕ
walk_value l c k = value_at l c k.at

-- past the end 3, at a bad row 11: the place stays
unfoldable pub walk_step : Lent → Column → Cursor → Step
walk_step l c k = record { why = why_value l c k.at; next = if_accepted (why_value l c k.at) (cursor (k.at + 1)) k }
