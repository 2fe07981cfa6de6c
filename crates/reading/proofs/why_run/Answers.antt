-- `reading::why_run` meets its contract. Assumes nothing.
use mathlib.Core.Path.{sym, ◌∙◌}
use native.Mathlib.Omega.{arith}
use Rattle.reading.proofs.ReadingLaws.{run-unfit, run_past, run-within}
use Rattle.reading.proofs.why_run.Goals as goal

pub returns-then-not-fits : goal.returns-then-not-fits
returns-then-not-fits c = run-unfit _ _ _ _ (sym c.fits.ensures ∙ c.if-not-fits.true)

pub returns-then-c-start : goal.returns-then-c-start
returns-then-c-start c = run_past _ _ _ _ (sym c.fits.ensures ∙ c.if-not-fits.false) (grind arith)

pub returns : goal.returns
returns c = run-within _ _ _ _ (sym c.fits.ensures ∙ c.if-not-fits.false) (omega arith)
