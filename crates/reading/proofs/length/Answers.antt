-- `reading::length` meets its contract. Assumes nothing.
use mathlib.Core.Path.{sym, ap, ◌∙◌}
use native.Mathlib.Omega.{arith}
use Rattle.bounds.specs.Bounds.{row-limit-small}
use Rattle.bounds.specs.Refusals.{is_accepted, answered-yes}
use Rattle.column.proofs.FitLaws.{fits_gives}
use Rattle.reading.specs.Reading.{length_at, why_row}
use Rattle.reading.proofs.ReadingLaws.{run-known, handed-no}
use Rattle.reading.proofs.length.Goals as goal

pub overflow_add-c : goal.overflow_add-c
overflow_add-c c =
    let g = run-known _ _ _ _ (ap is_accepted (sym c.why_run.ensures ∙ c.in_ok-why_run.was)) in
    let f = fits_gives _ _ _ _ _ _ g.fit in
    omega (arith, row-limit-small)

pub view_len-requires : goal.view_len-requires
view_len-requires c =
    let g = run-known _ _ _ _ (ap is_accepted (sym c.why_run.ensures ∙ c.in_ok-why_run.was)) in
    let f = fits_gives _ _ _ _ _ _ g.fit in
    omega arith

pub returns : goal.returns
unfolding length_at why_row
returns c = answered-yes _ _ _ (sym c.in_ok-why_run.was ∙ c.why_run.ensures) c.view_len.ensures.0

pub returns-in_err-why_run : goal.returns-in_err-why_run
unfolding length_at why_row
returns-in_err-why_run c =
    handed-no _ _ _ _ c.from_residual.ensures.1 (sym c.in_err-why_run.was ∙ c.why_run.ensures)
