-- `codes::past_hyphen` meets its contract. Assumes nothing.
use Rattle.codes.proofs.Laws.{past-none, past_one, past-other}
use Rattle.codes.proofs.past_hyphen.Goals as goal

pub returns-in-Some : goal.returns-in-Some
returns-in-Some c = past_one _ _ _ c.in-Some.ensures.cases.0 c.if-b-eq45.true

pub returns-in_default : goal.returns-in_default
returns-in_default c = past-other _ _ _ c.in-Some.ensures.cases.0 c.if-b-eq45.false

pub returns-in_default-2 : goal.returns-in_default-2
returns-in_default-2 c = past-none _ (rw c.in_default.is at c.split_first.ensures.cases)
