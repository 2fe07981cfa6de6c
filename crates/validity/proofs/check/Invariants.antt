-- `validity::check` meets its contract. The invariant: the view of each row passed is true. Assumes nothing.
use mathlib.Core.Bool.{true}
use mathlib.Core.Path.{◌≡◌}
use Prim.Native.Nat.{ℕ, ◌<◌}
use Rattle.column.specs.Room.{bare_of}
use Rattle.column.specs.Truth.{true_at}
use Rattle.validity.proofs.check.Given as goal

abbrev pub invariant-loop-k : goal.invariant-loop-k
invariant-loop-k l = (r : ℕ) → r < l.k → true_at l.c.kind (bare_of l.l) l.c r ≡ true
