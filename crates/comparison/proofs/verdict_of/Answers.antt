-- `comparison::verdict_of` meets its contract. Assumes nothing.
use Rattle.comparison.specs.Compare.{both_of}
use Rattle.comparison.specs.VerdictLaws.{left-lower, right-lower}
use Rattle.comparison.proofs.verdict_of.Goals as goal

pub returns-in-Ok-Ok : goal.returns-in-Ok-Ok
unfolding both_of
returns-in-Ok-Ok c = rw (c.in-Ok-Ok.is-0, c.in-Ok-Ok.is-1)

pub returns-in-Ok-Err : goal.returns-in-Ok-Err
unfolding both_of
returns-in-Ok-Err c = rw (c.in-Ok-Err.is-0, c.in-Ok-Err.is-1)

pub returns-in-Err-Ok : goal.returns-in-Err-Ok
unfolding both_of
returns-in-Err-Ok c = rw (c.in-Err-Ok.is-0, c.in-Err-Ok.is-1)

pub returns-then-number : goal.returns-then-number
returns-then-number c =
    left-lower _ _ _ _ _ _ c.in-Err-Err.is-0 c.in-Err-Err.is-1 c.number.ensures c.number-in-Err-Err.ensures c.if-number.true

pub returns-else-number : goal.returns-else-number
returns-else-number c =
    right-lower _ _ _ _ _ _ c.in-Err-Err.is-0 c.in-Err-Err.is-1 c.number.ensures c.number-in-Err-Err.ensures c.if-number.false
