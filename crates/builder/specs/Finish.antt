-- Both finishes. Assumes nothing.
use Rattle.std.specs.Prelude.{false, not}
use Rattle.bounds.specs.Refusals.{refuse, if_accepted, accepted, Why}
use Rattle.bounds.specs.declared.Refusal.TheVariants.{Fit}
use Rattle.column.specs.declared.Column.{Column}
use Rattle.builder.specs.declared.State.{State}
use Rattle.builder.specs.Get.{column_of}
use Rattle.builder.specs.State.{Builder, builder, moved, fits_state, recorded}
use Rattle.builder.specs.Start.{cleared}

unfoldable pub why_finish : Builder → Why
why_finish b = refuse Fit (not (fits_state b)) accepted

-- finish-by-copy writes the open block's record, and the state stays
unfoldable pub copied : Builder → Builder
copied b = builder b.state (recorded b.state b.lent) b.places

-- finish empties rows, blocks and merge table, and keeps the growth size
unfoldable pub finished : Builder → Builder
finished b =
    let s = b.state in
    builder (moved s s.growth 0 0 0 0 0 false) (recorded s b.lent) (cleared s.merging b.places)

-- the column that a finish answers: all rows so far, and none where it is refused
abbrev pub no_column : State → Column
no_column s = record { first = 0; rows = 0; blocks = 0; kind = s.kind; mapped = false }

unfoldable pub finish_column : Builder → Column
finish_column b = if_accepted (why_finish b) (column_of b) (no_column b.state)
