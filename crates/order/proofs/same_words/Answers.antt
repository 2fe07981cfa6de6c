use Rattle.order.proofs.OrderLaws.{same-is}
use borrow.Author.Tests.{eq-eqb, eqb-true}
use mathlib.Core.Path.{ap, sym, ◌∙◌}
use mathlib.Core.List.{List}
use Prim.Native.Nat.{ℕ, ◌-◌}
use Rattle.words.specs.Words.{word_at}
use Rattle.order.proofs.OrderLaws.{same-no}
use Rattle.order.proofs.Laws.{le_same, same-all}
use native.Mathlib.Omega.{arith}
use borrow.Author.Rules.{rules}
use Rattle.order.proofs.same_words.Goals as goal

pub returns-then-le64 : goal.returns-then-le64
returns-then-le64 c =
    let l = c.loop-i in
    sym (same-no _ _ (λ e. c.if-le64.true (c.le64.ensures ∙ ap (λ (x : List ℕ). word_at x l.i 8) e ∙ sym c.le64-in-loop-i.ensures)))

pub loop-i-preserved : goal.loop-i-preserved
loop-i-preserved c =
    let s = c.args in
    let l = c.loop-i in (
      search rules,
      le_same s.a.now s.b.now l.i 8 _ _ (λ j. (c.type_inv.a
          j).fits) (λ j. (c.type_inv.b j).fits) l.invariant.1 c.le64.ensures
          c.le64-in-loop-i.ensures c.if-le64.false,
    )

pub returns : goal.returns
returns c =
    let s = c.args in
    let l = c.loop-i in
    same-is _ _ _ (λ e. same-all s.a.now s.b.now s.n (omega arith) (omega arith) (λ k h. le_same s.a.now s.b.now (s.n - 8) 8 _
    _ (λ j. (c.type_inv.a j).fits)
    (λ j. (c.type_inv.b j).fits) (λ j g. l.invariant.1 j (omega arith)) c.le64-2.ensures
    c.le64-3.ensures (eqb-true _ _ e) k (omega arith)))
    (λ e. eq-eqb _ _ (c.le64-2.ensures ∙ ap (λ (x : List ℕ). word_at x (s.n - 8) 8) e ∙ sym c.le64-3.ensures))
