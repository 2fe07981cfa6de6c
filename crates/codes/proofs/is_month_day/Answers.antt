-- `codes::is_month_day` meets its contract. Assumes nothing.
use Rattle.std.proofs.Common.{List, ℕ, sym, ap, ◌∙◌}
use Rattle.codes.specs.Recogniser.{is_month, is_day, past_hyphen}
use Rattle.codes.proofs.Laws.{month-day-short, month-day-no, month-day-yes}
use Rattle.codes.proofs.is_month_day.Goals as goal

pub returns-in-None : goal.returns-in-None
returns-in-None c = month-day-short _ c.in-None.ensures.cases

pub returns-else-is_month : goal.returns-else-is_month
returns-else-is_month c = c.if-is_month.false
    ∙ month-day-no _ (sym (c.is_month.ensures ∙ ap is_month c.in-Some.ensures.cases.1) ∙ c.if-is_month.false)

pub returns-then-is_month : goal.returns-then-is_month
returns-then-is_month c = month-day-yes _ _ (sym (c.is_month.ensures ∙ ap is_month c.in-Some.ensures.cases.1) ∙ c.if-is_month.true)
    (c.is_day.ensures ∙ (ap is_day c.past_hyphen.ensures ∙ ap (λ (x : List ℕ). is_day (past_hyphen x)) c.in-Some.ensures.cases.2))
