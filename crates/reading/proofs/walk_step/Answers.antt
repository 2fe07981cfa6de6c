-- `reading::walk_step` meets its contract. Assumes nothing.
use mathlib.Core.Bool.{not}
use mathlib.Core.Path.{sym, ap, ◌∙◌}
use native.Mathlib.Omega.{arith}
use Rattle.bounds.specs.Bounds.{row-limit-small}
use Rattle.bounds.specs.Refusals.{is_accepted}
use Rattle.column.proofs.FitLaws.{fits_gives}
use Rattle.reading.proofs.ReadingLaws.{value-readable, step_stays, step-goes}
use Rattle.reading.proofs.walk_step.Goals as goal

pub returns-then-is_err : goal.returns-then-is_err
returns-then-is_err c = step_stays _ _ _ _ c.why_value-why.ensures (c.is_err.ensures.negation ∙ ap not c.if-is_err.true)

pub overflow_add-result : goal.overflow_add-result
overflow_add-result c =
    let g = value-readable _ _ _
    (ap is_accepted (sym c.why_value-why.ensures) ∙ c.is_err.ensures.negation ∙ ap not c.if-is_err.false) in
    let f = fits_gives _ _ _ _ _ _ g.fit in
    omega (arith, row-limit-small)

pub returns : goal.returns
returns c = step-goes _ _ _ _ c.why_value-why.ensures (c.is_err.ensures.negation ∙ ap not c.if-is_err.false)
