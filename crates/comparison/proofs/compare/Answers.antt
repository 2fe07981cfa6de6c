-- `comparison::compare` meets its contract. Assumes nothing.
use mathlib.Core.Path.{◌∙◌}
use Rattle.reading.proofs.ReadingLaws.{handed-on}
use Rattle.comparison.specs.VerdictLaws.{both_is, compared-no, compared-by}
use Rattle.reading.proofs.LocatedLaws.{located-why, located-lies, located-bytes}
use Rattle.comparison.proofs.compare.Goals as goal

pub part_of-x-requires : goal.part_of-x-requires
part_of-x-requires c = located-lies _ _ _ _ _ _ _ c.locate-p.ensures

pub part_of-y-requires : goal.part_of-y-requires
part_of-y-requires c = located-lies _ _ _ _ _ _ _ c.locate-q.ensures

pub returns : goal.returns
returns c =
    compared-by _ _ _ _ _ _ _ _ _ _ _ _ _ _ _ _ _ _ (both_is _ _ _ _ _ _ _ _ _ (c.why_of.ensures ∙ located-why _ _ _ _ c.locate-p.ensures)
    (c.why_of-2.ensures ∙ located-why _ _ _ _ c.locate-q.ensures) c.verdict_of.ensures)
    c.in_ok-verdict_of.was c.view_of-v.ensures c.view_of-w.ensures
    (c.part_of-x.ensures.0 ∙ located-bytes _ _ _ _ _ _ _ c.locate-p.ensures)
    (c.part_of-y.ensures.0 ∙ located-bytes _ _ _ _ _ _ _ c.locate-q.ensures) c.order_with.ensures

pub returns-in_err-verdict_of : goal.returns-in_err-verdict_of
returns-in_err-verdict_of c =
    handed-on _ _ _ c.from_residual.ensures.1 (compared-no _ _ _ _ _ _ _ (both_is _ _ _ _ _ _ _ _ _
    (c.why_of.ensures ∙ located-why _ _ _ _ c.locate-p.ensures)
    (c.why_of-2.ensures ∙ located-why _ _ _ _ c.locate-q.ensures) c.verdict_of.ensures) _ c.in_err-verdict_of.was)
