-- `codes::is_month_year` meets its contract. Assumes nothing.
use Rattle.std.proofs.Common.{sym, ap, ◌∙◌}
use Rattle.codes.specs.Recogniser.{is_month, is_year}
use Rattle.codes.proofs.Laws.{month-year-short, month-year-no, month-year-yes}
use Rattle.codes.proofs.is_month_year.Goals as goal

pub returns-in-None : goal.returns-in-None
returns-in-None c = month-year-short _ c.in-None.ensures.cases

pub returns-else-is_month : goal.returns-else-is_month
returns-else-is_month c = c.if-is_month.false
    ∙ month-year-no _ (sym (c.is_month.ensures ∙ ap is_month c.in-Some.ensures.cases.1) ∙ c.if-is_month.false)

pub returns-then-is_month : goal.returns-then-is_month
returns-then-is_month c = month-year-yes _ _ (sym (c.is_month.ensures ∙ ap is_month c.in-Some.ensures.cases.1) ∙ c.if-is_month.true)
    (c.is_year.ensures ∙ ap is_year c.in-Some.ensures.cases.2)
