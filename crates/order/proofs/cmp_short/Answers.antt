use Rattle.order.specs.Order.{short_order}
use mathlib.Core.Path.{◌∙◌}
use Rattle.order.proofs.Laws.{eight-differ, eight-equal}
use native.Mathlib.Omega.{arith}
use Rattle.order.proofs.cmp_short.Goals as goal

pub returns-then-x-y : goal.returns-then-x-y
unfolding short_order
returns-then-x-y c =
    c.by_word.ensures
    ∙ eight-differ c.args.v.now c.args.w.now (λ j. (c.type_inv.v j).fits)
    (λ j. (c.type_inv.w j).fits) (omega arith) (omega arith) c.requires.2 _ _
    c.be64-x.ensures c.be64-y.ensures _ c.if-x-y.true

pub returns : goal.returns
unfolding short_order
returns c =
    c.by_word-2.ensures
    ∙ rw (c.le32.ensures.0, c.le32-2.ensures.0)
    (eight-equal c.args.v.now c.args.w.now (λ j. (c.type_inv.v j).fits)
    (λ j. (c.type_inv.w j).fits) (omega arith) (omega arith) c.requires.2 _ _
    c.be64-x.ensures c.be64-y.ensures _ c.if-x-y.false)
