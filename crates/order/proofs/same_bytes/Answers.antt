use mathlib.Core.Path.{ap, sym}
use mathlib.Core.List.{List}
use lib.ListN.{get_or}
use Prim.Native.Nat.{ℕ}
use Rattle.order.proofs.OrderLaws.{same-no, same-yes}
use Rattle.order.proofs.Laws.{same-all}
use native.Mathlib.Omega.{arith}
use Rattle.order.proofs.same_bytes.Goals as goal

pub returns-then-a-i : goal.returns-then-a-i
returns-then-a-i c =
    let l = c.loop-i in
    sym (same-no _ _ (λ e. c.if-a-i.true (ap (λ (x : List ℕ). get_or x l.i 0) e)))

pub returns : goal.returns
returns c =
    let s = c.args in
    let l = c.loop-i in
    sym (same-yes _ _ (same-all s.a.now s.b.now s.n (omega arith) (omega arith) (λ k h. l.invariant k (omega arith))))
