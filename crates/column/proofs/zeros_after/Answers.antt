-- `column::zeros_after` meets its contract. Assumes nothing.
use mathlib.Core.Path.{refl}
use native.Mathlib.Omega.{arith}
use Rattle.column.proofs.TruthLaws.{rest-none, rest-high, rest-low, rest-not}
use Rattle.std.proofs.Common.{eq-eqb}
use borrow.Author.Tests.{ne_eqb}
use Rattle.column.proofs.zeros_after.Goals as goal

pub returns-else-hi-eq0 : goal.returns-else-hi-eq0
returns-else-hi-eq0 c =
    let s = c.args in
    rw (ne_eqb _ _ c.if-hi-eq0.false) (rest-not s.views.now s.at s.len (λ j. (c.type_inv.views j).fits) _ _ refl
    c.le64-hi.ensures (omega arith) c.if-hi-eq0.false)

pub returns-then-hi-eq0 : goal.returns-then-hi-eq0
returns-then-hi-eq0 c =
    let s = c.args in
    rest-low s.views.now s.at s.len (λ j. (c.type_inv.views j).fits) _ _ c.le32.ensures.0
    c.le64-hi.ensures (omega arith) c.if-hi-eq0.true

pub returns-then-len-eq-SHORT_MOST : goal.returns-then-len-eq-SHORT_MOST
returns-then-len-eq-SHORT_MOST c = let s = c.args in rw (eq-eqb _ _ c.if-len-eq-SHORT_MOST.true) (rest-none s.views.now s.at s.len (omega arith))

pub returns-else-len-eq-SHORT_MOST : goal.returns-else-len-eq-SHORT_MOST
returns-else-len-eq-SHORT_MOST c =
    let s = c.args in
    rest-high s.views.now s.at s.len (λ j. (c.type_inv.views j).fits) _ _ refl
    c.le64-hi.ensures (omega arith) (omega arith)
