use Rattle.order.proofs.OrderLaws.{same-no}
use lib.ListN.{length}
use mathlib.Core.Path.{ap, sym}
use Rattle.order.proofs.same.Goals as goal

pub returns-then-n-b : goal.returns-then-n-b
returns-then-n-b c = sym (same-no _ _ (λ e. c.if-n-b.true (ap length e)))
