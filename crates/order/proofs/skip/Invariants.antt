use Rattle.order.specs.Order.{Agree}
use Prim.Native.Nat.{◌-◌, ◌≤◌}
use Rattle.order.proofs.skip.Given as goal

abbrev pub invariant-loop-i : goal.invariant-loop-i
invariant-loop-i l = (l.i ≤ l.n) × Agree l.a l.b 0 l.i

abbrev pub decreases-loop-i : goal.decreases-loop-i
decreases-loop-i l = l.n - l.i
