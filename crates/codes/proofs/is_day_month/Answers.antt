-- `codes::is_day_month` meets its contract. Assumes nothing.
use Rattle.std.proofs.Common.{List, ℕ, sym, ap, ◌∙◌}
use Rattle.std.proofs.lemmas.List.{take_rest}
use Rattle.codes.specs.Recogniser.{is_month_year, past_hyphen}
use Rattle.codes.proofs.Laws.{day-month-no, day-month-yes}
use Rattle.codes.proofs.is_day_month.Goals as goal

pub returns-then-begins_with_day : goal.returns-then-begins_with_day
returns-then-begins_with_day c = day-month-yes _ _ c.requires.0 _ (sym c.begins_with_day.ensures ∙ c.if-begins_with_day.true)
    (c.is_month_year.ensures ∙ (ap is_month_year c.past_hyphen.ensures ∙ ap (λ (x : List ℕ). is_month_year (past_hyphen x)) (take_rest c.args.s.now c.args.d)))

pub returns-else-begins_with_day : goal.returns-else-begins_with_day
returns-else-begins_with_day c = c.if-begins_with_day.false ∙ day-month-no _ _ c.requires.0 (sym c.begins_with_day.ensures ∙ c.if-begins_with_day.false)
