-- `batches::order_of` meets its contract. Assumes nothing.
use Rattle.std.proofs.Common.{◌∙◌, ap₂, rules}
use Rattle.order.specs.Order.{cmp}
use Rattle.comparison.specs.VerdictLaws.{view-part, told_is, told-whole}
use Rattle.batches.proofs.Laws.{by_parts}
use Rattle.batches.proofs.order_of.Goals as goal

pub returns-in-Some : goal.returns-in-Some
returns-in-Some c =
    let t = c.by_views-told in
    told_is t.result _ _ (by_parts _ _ _ _ _ t.result (t.ensures _ _) (view-part _ _) (view-part _ _)) _ c.in-Some.is

pub returns-in-None : goal.returns-in-None
returns-in-None c =
    let t = c.by_views-told in
    c.cmp.ensures ∙ ap₂ cmp c.value_part-x.ensures.0 c.value_part-y.ensures.0
    ∙ told-whole t.result _ _ (by_parts _ _ _ _ _ t.result (t.ensures _ _) (view-part _ _) (view-part _ _))
    c.in-None.is
