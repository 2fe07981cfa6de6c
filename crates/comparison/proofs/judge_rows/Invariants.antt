-- `comparison::judge_rows` meets its contract. The invariant: each row passed is reachable. Assumes nothing.
use mathlib.Core.Bool.{true}
use mathlib.Core.Path.{◌≡◌}
use Prim.Native.Nat.{ℕ, ◌<◌}
use Rattle.column.specs.Room.{bare_of}
use Rattle.column.specs.Truth.{reachable_at}
use Rattle.comparison.proofs.judge_rows.Given as goal

abbrev pub invariant-loop-k : goal.invariant-loop-k
invariant-loop-k l = (r : ℕ) → r < l.k → reachable_at (bare_of l.l) l.c r ≡ true
