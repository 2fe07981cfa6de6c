-- `codes::is_year` meets its contract. Assumes nothing.
use Rattle.std.proofs.Common.{eq-eqb, ne_eqb, ◌∙◌}
use Rattle.codes.proofs.Laws.{year-none, year-other, year-not, year-two, year-four}
use Rattle.codes.proofs.is_year.Goals as goal

pub returns-in-None : goal.returns-in-None
returns-in-None c = year-none _ c.in-None.ensures.cases

pub returns-in-Some-2 : goal.returns-in-Some-2
returns-in-Some-2 c = year-other _ _ _ c.in-Some.ensures.cases.0 c.if-b-eq45.false

pub returns-else-d-rest : goal.returns-else-d-rest
returns-else-d-rest c = ne_eqb _ _ c.if-d-rest.false ∙ year-not _ _ _ c.in-Some.ensures.cases.0 c.if-b-eq45.true _ c.leading-d.ensures.0 c.if-d-rest.false

pub returns-then-d-eq2 : goal.returns-then-d-eq2
returns-then-d-eq2 c = eq-eqb _ _ c.if-d-eq2.true ∙ year-two _ _ _ c.in-Some.ensures.cases.0 c.if-b-eq45.true _ c.leading-d.ensures.0 c.if-d-rest.true c.if-d-eq2.true

pub returns-else-d-eq2 : goal.returns-else-d-eq2
returns-else-d-eq2 c = year-four _ _ _ c.in-Some.ensures.cases.0 c.if-b-eq45.true _ c.leading-d.ensures.0 c.if-d-rest.true c.if-d-eq2.false
