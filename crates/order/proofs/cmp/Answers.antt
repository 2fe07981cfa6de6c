use mathlib.Core.Path.{◌∙◌}
use Rattle.order.proofs.Laws.{word-decides, word_same}
use native.Mathlib.Omega.{arith}
use Rattle.order.proofs.cmp.Goals as goal

pub returns-then-x-y : goal.returns-then-x-y
returns-then-x-y c =
    let s = c.args in
    c.by_word.ensures ∙ word-decides s.a.now s.b.now 0 8 _ _ (λ j. (c.type_inv.a j).fits)
    (λ j. (c.type_inv.b j).fits) (omega arith) (omega arith) (λ k h. absurd (omega arith)) c.be64-x.ensures
    c.be64-y.ensures c.if-x-y.true

pub skip_runs-requires : goal.skip_runs-requires
skip_runs-requires c =
    let s = c.args in (
      omega arith,
      omega arith,
      omega arith,
      word_same s.a.now s.b.now 0 8 _ _ (λ j. (c.type_inv.a j).fits) (λ j. (c.type_inv.b j).fits)
          (λ k h. absurd (omega arith)) c.be64-x.ensures c.be64-y.ensures c.if-x-y.false,
    )
