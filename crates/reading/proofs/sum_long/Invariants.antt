-- `reading::sum_long` meets its contract. Assumes nothing.
use mathlib.Core.Bool.{false}
use mathlib.Core.List.{[]}
use mathlib.Core.Path.{◌≡◌}
use Prim.Native.Nat.{◌≤◌, ◌*◌}
use Rattle.column.specs.Lent.{buffers}
use Rattle.reading.specs.Reading.{buffer_bytes}
use Rattle.reading.specs.TotalLaws.{rows_only}
use Rattle.reading.proofs.sum_long.Given as goal

abbrev pub invariant-loop-k : goal.invariant-loop-k
invariant-loop-k l = (l.sum ≡ buffer_bytes (buffers l.views [] [] []) (rows_only false l.first) l.k) × (l.sum ≤ 4294967296 * l.k)
