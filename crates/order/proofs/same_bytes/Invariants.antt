use Rattle.order.specs.Order.{Agree}
use Rattle.order.proofs.same_bytes.Given as goal

abbrev pub invariant-loop-i : goal.invariant-loop-i
invariant-loop-i l = Agree l.a l.b 0 l.i
