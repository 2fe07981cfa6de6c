-- `comparison::compare_with` meets its contract. Assumes nothing.
use mathlib.Core.Path.{◌∙◌}
use Rattle.reading.proofs.ReadingLaws.{handed-on}
use Rattle.comparison.specs.VerdictLaws.{both_is, compared-no, compared-by}
use Rattle.reading.proofs.LocatedLaws.{located-why, located-bytes}
use Rattle.comparison.proofs.compare_with.Goals as goal

pub returns : goal.returns
returns c =
    λ table table2 sees sees2. compared-by _ _ _ _ _ _ _ _ _ _ _ _ _ _ _ _ _ _ (both_is _ _ _ _ _ _ _ _ _
    (c.why_of.ensures ∙ located-why _ _ _ _ (c.locate_with-p.ensures.1 table sees))
    (c.why_of-2.ensures ∙ located-why _ _ _ _ (c.locate_with-q.ensures.1 table2 sees2)) c.verdict_of.ensures)
    c.in_ok-verdict_of.was c.view_of-v.ensures c.view_of-w.ensures
    (c.part_of-x.ensures.0 ∙ located-bytes _ _ _ _ _ _ _ (c.locate_with-p.ensures.1 table sees))
    (c.part_of-y.ensures.0 ∙ located-bytes _ _ _ _ _ _ _ (c.locate_with-q.ensures.1 table2 sees2)) c.order_with.ensures

pub returns-in_err-verdict_of : goal.returns-in_err-verdict_of
returns-in_err-verdict_of c =
    λ table table2 sees sees2. handed-on _ _ _ c.from_residual.ensures.1 (compared-no _ _ _ _ _ _ _ (both_is _ _ _ _ _ _ _ _ _
    (c.why_of.ensures ∙ located-why _ _ _ _ (c.locate_with-p.ensures.1 table sees))
    (c.why_of-2.ensures ∙ located-why _ _ _ _ (c.locate_with-q.ensures.1 table2 sees2)) c.verdict_of.ensures) _ c.in_err-verdict_of.was)
