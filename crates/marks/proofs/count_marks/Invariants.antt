-- `marks::count_marks` meets its contract. The invariant: the rows passed are tallied, and the view of each is reachable. Assumes nothing.
use mathlib.Core.Bool.{true}
use mathlib.Core.Path.{◌≡◌}
use Prim.Native.Nat.{ℕ, ◌<◌}
use Rattle.column.specs.Lent.{lent_of}
use Rattle.column.specs.Truth.{reachable_at}
use Rattle.marks.specs.Marking.{tally_of}
use Rattle.marks.proofs.count_marks.Given as goal

abbrev pub invariant-loop-k : goal.invariant-loop-k
invariant-loop-k l = (l.t ≡ tally_of (lent_of l.l) l.c l.k) × ((r : ℕ) → r < l.k → reachable_at (lent_of l.l) l.c r ≡ true)
