-- `order::by_words` meets its contract. Assumes nothing.
use mathlib.Core.Path.{◌∙◌}
use Prim.Native.Nat.{◌-◌}
use Rattle.order.specs.Order.{Agree}
use Rattle.order.proofs.Laws.{word_same, word-decides, lengths-decide}
use Rattle.words.specs.Words.{Bytes}
use native.Mathlib.Omega.{arith}
use Rattle.order.proofs.by_words.Goals as goal

pub returns-then-x-y : goal.returns-then-x-y
returns-then-x-y c =
    let s = c.args in
    let l = c.loop-i in
    let ha : Bytes s.a.now = λ j. (c.type_inv.a j).fits in
    let hb : Bytes s.b.now = λ j. (c.type_inv.b j).fits in
    let x = c.be64-x.ensures in
    let y = c.be64-y.ensures in
    c.by_word.ensures ∙ word-decides s.a.now s.b.now l.i 8 _ _ ha hb (omega arith) (omega arith) l.invariant.1 x y c.if-x-y.true

pub loop-i-preserved : goal.loop-i-preserved
loop-i-preserved c =
    let s = c.args in
    let l = c.loop-i in
    let ha : Bytes s.a.now = λ j. (c.type_inv.a j).fits in
    let hb : Bytes s.b.now = λ j. (c.type_inv.b j).fits in
    let on = word_same s.a.now s.b.now l.i 8 _ _ ha hb l.invariant.1 c.be64-x.ensures c.be64-y.ensures c.if-x-y.false in
    (omega arith, on)

pub returns-then-x-y-2 : goal.returns-then-x-y-2
returns-then-x-y-2 c =
    let s = c.args in
    let l = c.loop-i in
    let ha : Bytes s.a.now = λ j. (c.type_inv.a j).fits in
    let hb : Bytes s.b.now = λ j. (c.type_inv.b j).fits in
    let x = c.be64-x-2.ensures in
    let y = c.be64-y-2.ensures in
    let before : Agree s.a.now s.b.now 0 (s.n - 8) = λ k h. l.invariant.1 k (omega arith) in
    c.by_word-then-x-y-2.ensures ∙ word-decides s.a.now s.b.now (s.n - 8) 8 _ _ ha hb (omega arith) (omega arith) before x y c.if-x-y-2.true

pub returns : goal.returns
returns c =
    let s = c.args in
    let l = c.loop-i in
    let ha : Bytes s.a.now = λ j. (c.type_inv.a j).fits in
    let hb : Bytes s.b.now = λ j. (c.type_inv.b j).fits in
    let x = c.be64-x-2.ensures in
    let y = c.be64-y-2.ensures in
    let before : Agree s.a.now s.b.now 0 (s.n - 8) = λ k h. l.invariant.1 k (omega arith) in
    let all = word_same s.a.now s.b.now (s.n - 8) 8 _ _ ha hb before x y c.if-x-y-2.false in
    c.by_word-2.ensures ∙ lengths-decide s.a.now s.b.now (λ k h. all k (omega arith))
