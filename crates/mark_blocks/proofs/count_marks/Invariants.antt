-- `mark_blocks::count_marks` meets its contract. The invariant: the rows passed are tallied, and the view of each is reachable. Assumes nothing.
use mathlib.Core.Bool.{true}
use mathlib.Core.Path.{◌≡◌}
use Prim.Native.Nat.{ℕ, ◌<◌}
use Rattle.column.specs.Lent.{buffers}
use Rattle.column.specs.Truth.{reachable_at}
use Rattle.marks.specs.Marking.{tally_of}
use Rattle.mark_blocks.proofs.count_marks.Given as goal

abbrev pub invariant-loop-k : goal.invariant-loop-k
invariant-loop-k l = (l.t ≡ tally_of (buffers l.views l.bytes l.table l.nulls) l.c l.k)
    × ((r : ℕ) → r < l.k → reachable_at (buffers l.views l.bytes l.table l.nulls) l.c r ≡ true)
