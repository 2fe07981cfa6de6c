use Rattle.order.specs.Order.{Agree}
use mathlib.Core.Path.{◌≡◌}
use Rattle.order.proofs.same_run.Given as goal

abbrev pub invariant-loop-k : goal.invariant-loop-k
invariant-loop-k l = (l.d ≡ 0 → Agree l.a l.b l.i l.k) × (Agree l.a l.b l.i l.k → l.d ≡ 0)
