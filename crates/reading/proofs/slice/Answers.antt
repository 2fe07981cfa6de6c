-- `reading::slice` meets its contract. Assumes nothing.
use mathlib.Core.Path.{refl, sym, ap, ◌∙◌}
use native.Mathlib.Omega.{arith}
use Rattle.bounds.specs.Bounds.{row-limit-small}
use Rattle.bounds.specs.Refusals.{is_accepted, answered-yes}
use Rattle.column.proofs.FitLaws.{fits_gives}
use Rattle.reading.specs.Reading.{slice}
use Rattle.reading.proofs.ReadingLaws.{run-known, handed-no}
use Rattle.reading.proofs.slice.Goals as goal

pub overflow_add-result : goal.overflow_add-result
overflow_add-result c =
    let g = run-known _ _ _ _ (ap is_accepted (sym c.why_run.ensures ∙ c.in_ok-why_run.was)) in
    let f = fits_gives _ _ _ _ _ _ g.fit in
    omega (arith, row-limit-small)

pub returns : goal.returns
unfolding slice
returns c = answered-yes _ _ _ (sym c.in_ok-why_run.was ∙ c.why_run.ensures) refl

pub returns-in_err-why_run : goal.returns-in_err-why_run
unfolding slice
returns-in_err-why_run c =
    handed-no _ _ _ _ c.from_residual.ensures.1 (sym c.in_err-why_run.was ∙ c.why_run.ensures)
