-- A column is valid if all its views are true and its blocks lie in the data. Assumes nothing.
use Rattle.std.specs.Prelude.{not}
use Rattle.bounds.specs.Refusals.{refuse, accepted, Why}
use Rattle.bounds.specs.declared.Refusal.TheVariants.{Fit, Range}
use Rattle.column.specs.declared.Column.{Column}
use Rattle.column.specs.Lent.{Lent, fits, all_in_data}
use Rattle.column.specs.Truth.{true_at, lowest}

-- 2, 11, 9
unfoldable pub why_invalid : Lent → Column → Why
why_invalid l c = refuse Fit (not (fits l c)) (lowest (true_at c.kind l c) c.rows (refuse Range (not (all_in_data l c.blocks)) accepted))
