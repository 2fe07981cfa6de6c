-- `comparison::by_views` meets its contract. Assumes nothing.
use mathlib.Core.Path.{◌∙◌}
use native.Mathlib.Omega.{arith}
use Rattle.order.proofs.WordOrder.{four-equal}
use Rattle.comparison.specs.VerdictLaws.{short-order, whole-order, four-order}
use Rattle.comparison.proofs.by_views.Goals as goal

pub returns-then-p-q : goal.returns-then-p-q
returns-then-p-q c = λ bs cs. c.by_word.ensures ∙ four-order bs _ cs _ (λ j. (c.type_inv.v j).fits)
    (λ j. (c.type_inv.w j).fits) (omega arith) (omega arith) _ _
    c.be32-p.ensures.0 c.be32-q.ensures.0 c.if-p-q.true

pub returns-then-both_short : goal.returns-then-both_short
returns-then-both_short c = λ bs cs. short-order bs _ cs _ (omega arith) (omega arith) _ _ c.view_len.ensures.0
    c.view_len-2.ensures.0 _ c.both_short.ensures _ c.if-both_short.true c.cmp_short.ensures

pub returns : goal.returns
returns c =
    λ bs cs. whole-order bs _ cs _ (omega arith) (omega arith) _ _ c.view_len.ensures.0
    c.view_len-2.ensures.0 _ c.both_short.ensures c.if-both_short.false
    (four-equal _ _ (λ j. (c.type_inv.v j).fits) (λ j. (c.type_inv.w j).fits)
    (omega arith) (omega arith) _ _ c.be32-p.ensures.0
    c.be32-q.ensures.0 c.if-p-q.false)
