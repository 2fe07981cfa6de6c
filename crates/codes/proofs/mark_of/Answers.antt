-- `codes::mark_of` meets its contract. Assumes nothing.
use Rattle.std.proofs.Common.{sym, ◌∙◌}
use Rattle.codes.proofs.Laws.{mark-other, mark-date, mark_code}
use Rattle.codes.proofs.mark_of.Goals as goal

pub returns-then-not-conforms : goal.returns-then-not-conforms
returns-then-not-conforms c = mark-other _ (sym c.conforms.ensures ∙ c.if-not-conforms.true)

pub returns-then-is_date : goal.returns-then-is_date
returns-then-is_date c = mark-date _ (sym c.conforms.ensures ∙ c.if-not-conforms.false) (sym c.is_date.ensures ∙ c.if-is_date.true)

pub returns-else-is_date : goal.returns-else-is_date
returns-else-is_date c = mark_code _ (sym c.conforms.ensures ∙ c.if-not-conforms.false) (sym c.is_date.ensures ∙ c.if-is_date.false)
