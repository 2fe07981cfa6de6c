-- `comparison::same_column` meets its contract. Assumes nothing.
use mathlib.Core.Path.{sym, ap₂, ◌∙◌}
use Rattle.reading.proofs.ReadingLaws.{handed-no}
use Rattle.std.proofs.Common.{eq-eqb}
use borrow.Author.Tests.{ne_eqb}
use Rattle.bounds.specs.Refusals.{answered-yes}
use Rattle.comparison.proofs.SameLaws.{all-comparable}
use Rattle.comparison.specs.Compare.{both_of}
use Rattle.comparison.specs.Same.{why_same, same_column}
use Rattle.comparison.proofs.same_column.Goals as goal

pub returns-in_err-verdict_of : goal.returns-in_err-verdict_of
unfolding why_same same_column
returns-in_err-verdict_of c =
    handed-no _ _ _ _ c.from_residual.ensures.1 (sym c.in_err-verdict_of.was ∙ c.verdict_of.ensures ∙ ap₂ both_of c.why_all.ensures c.why_all-2.ensures)

pub same_rows-requires : goal.same_rows-requires
unfolding why_same
same_rows-requires c = (
  all-comparable _ _ _ _ (sym (c.verdict_of.ensures ∙ ap₂ both_of c.why_all.ensures c.why_all-2.ensures) ∙ c.in_ok-verdict_of.was),
  c.if-c-d.true,
)

pub returns-then-c-d : goal.returns-then-c-d
unfolding why_same same_column
returns-then-c-d c =
    answered-yes _ _ _ (sym c.in_ok-verdict_of.was ∙ c.verdict_of.ensures ∙ ap₂ both_of c.why_all.ensures c.why_all-2.ensures)
    (rw (eq-eqb _ _ c.if-c-d.true) c.same_rows.ensures)

pub returns-else-c-d : goal.returns-else-c-d
unfolding why_same same_column
returns-else-c-d c =
    answered-yes _ _ _ (sym c.in_ok-verdict_of.was ∙ c.verdict_of.ensures ∙ ap₂ both_of c.why_all.ensures c.why_all-2.ensures)
    (rw (ne_eqb _ _ c.if-c-d.false))
