-- `growth::next_size` meets its contract. The loop's invariant: `before` is the size after k steps, and `s` is none of those before. Assumes nothing.
use Prim.Native.Nat.{◌-◌, ◌≤◌}
use mathlib.Core.Path.{◌≡◌}
use mathlib.Core.Bool.{false}
use Rattle.growth.specs.Growing.{size_after, reached_in}
use Rattle.growth.proofs.next_size.Given as goal

abbrev pub invariant-loop-k : goal.invariant-loop-k
invariant-loop-k l = (l.k ≤ 8) × (l.before ≡ size_after l.k) × (reached_in l.k l.s ≡ false)

abbrev pub decreases-loop-k : goal.decreases-loop-k
decreases-loop-k l = 8 - l.k
