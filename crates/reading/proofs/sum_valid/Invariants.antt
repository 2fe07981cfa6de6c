-- `reading::sum_valid` meets its contract. Assumes nothing.
use mathlib.Core.List.{[]}
use mathlib.Core.Path.{◌≡◌}
use Prim.Native.Nat.{◌≤◌, ◌*◌}
use Rattle.column.specs.Lent.{buffers}
use Rattle.reading.specs.Reading.{bytes_len}
use Rattle.reading.specs.TotalLaws.{rows_only}
use Rattle.reading.proofs.sum_valid.Given as goal

abbrev pub invariant-loop-k : goal.invariant-loop-k
invariant-loop-k l = (l.sum ≡ bytes_len (buffers l.views [] [] l.nulls) (rows_only l.mapped l.first) l.k)
    × (l.sum ≤ 4294967296 * l.k)
