-- `codes::is_date` meets its contract. Assumes nothing.
use Rattle.std.proofs.Common.{sym, ◌∙◌, arith}
use Rattle.codes.proofs.Laws.{date-month, date-day, date-groups}
use Rattle.codes.proofs.is_date.Goals as goal

pub returns-in-0 : goal.returns-in-0
returns-in-0 c = date-month _ _ c.leading.ensures.0 _ c.in-0.is c.is_month_day.ensures

pub returns-then-is_day_month : goal.returns-then-is_day_month
returns-then-is_day_month c = c.if-is_day_month.true
    ∙ date-day _ _ c.leading.ensures.0 (λ e. omega arith) (sym c.is_day_month.ensures ∙ c.if-is_day_month.true)

pub returns-else-is_day_month : goal.returns-else-is_day_month
returns-else-is_day_month c = date-groups _ _ c.leading.ensures.0 _ (λ e. omega arith) (sym c.is_day_month.ensures ∙ c.if-is_day_month.false) c.is_groups.ensures
