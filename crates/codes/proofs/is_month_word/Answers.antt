-- `codes::is_month_word` meets its contract. Assumes nothing.
use Rattle.codes.proofs.Laws.{word-yes, word-no}
use Rattle.codes.proofs.is_month_word.Goals as goal

pub returns-in-4866382 : goal.returns-in-4866382
returns-in-4866382 c = word-yes _ c.in-4866382.is

pub returns-in_default : goal.returns-in_default
returns-in_default c = word-no _ c.in_default.in_default-own.rest.1
