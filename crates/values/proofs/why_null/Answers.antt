use mathlib.Core.Bool.{not}
use Rattle.bounds.specs.Refusals.{refuse-yes, refuse-no}
use borrow.Author.Tests.{le-leb, lt-leb}
use mathlib.Core.Path.{refl, sym, ap, ◌∙◌}
use Rattle.values.proofs.why_null.Goals as goal

pub returns-then-not-state_fits : goal.returns-then-not-state_fits
returns-then-not-state_fits c = refuse-yes _ _ _ _ (ap not (sym c.state_fits.ensures) ∙ c.if-not-state_fits.true-raw) refl

pub returns-then-rows-s : goal.returns-then-rows-s
returns-then-rows-s c = refuse-no _ _ _ _ (ap not (sym c.state_fits.ensures) ∙ c.if-not-state_fits.false-raw)
    (refuse-yes _ _ _ _ (le-leb _ _ c.if-rows-s.true) refl)

pub returns : goal.returns
returns c = refuse-no _ _ _ _ (ap not (sym c.state_fits.ensures) ∙ c.if-not-state_fits.false-raw)
    (refuse-no _ _ _ _ (lt-leb _ _ c.if-rows-s.false) refl)
