-- `utf8::goes_on` meets its contract. Assumes nothing.
use mathlib.Core.Path.{◌≡◌, sym, ◌∙◌}
use Prim.Native.Nat.{◌+◌}
use native.Mathlib.Omega.{arith}
use Rattle.utf8.proofs.Laws.{nexts-on, nexts-end, nexts-last}
use borrow.Author.Tests.{eq-eqb}
use Rattle.utf8.proofs.goes_on.Goals as goal

pub returns-then-n-eq2 : goal.returns-then-n-eq2
returns-then-n-eq2 c =
    let a = c.args in
    eq-eqb _ _ c.if-n-eq2.true ∙ sym (nexts-end a.s.now (a.i + 2) (a.i + a.n) (omega arith))

pub returns-else-in_range : goal.returns-else-in_range
returns-else-in_range c =
    let a = c.args in
    let third = sym c.in_range.ensures ∙ c.if-in_range.false in
    c.if-in_range.false ∙ sym (nexts-on a.s.now (a.i + 2) (a.i + a.n) (omega arith) (omega arith) ∙ rw third)

pub returns-then-n-eq3 : goal.returns-then-n-eq3
returns-then-n-eq3 c =
    let a = c.args in
    let third = sym c.in_range.ensures ∙ c.if-in_range.true in
    eq-eqb _ _ c.if-n-eq3.true ∙ sym (nexts-last a.s.now (a.i + 2) (a.i + a.n) (omega arith) (omega arith) ∙ third)

pub returns-else-n-eq3 : goal.returns-else-n-eq3
returns-else-n-eq3 c =
    let a = c.args in
    let x = a.s.now in
    let third = sym c.in_range.ensures ∙ c.if-in_range.true in
    let at : a.i + 2 + 1 ≡ a.i + 3 = omega arith in
    let last = rw at at (nexts-last x (a.i + 2 + 1) (a.i + a.n) (omega arith) (omega arith)) in
    c.in_range-else-n-eq3.ensures ∙ sym (nexts-on x (a.i + 2) (a.i + a.n) (omega arith) (omega arith) ∙ rw (third, at, last))
