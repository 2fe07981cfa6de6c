use borrow.Author.Tests.{eq-eqb, ne_eqb}
use Rattle.builder.proofs.StepLaws.{pick_yes, pick_no}
use Rattle.builder.specs.RoomLaws.{fits-rows}
use mathlib.Core.Bool.{not}
use Rattle.bounds.specs.Refusals.{refuse-yes, refuse-no}
use mathlib.Core.Path.{refl, sym, ap, ◌∙◌}
use Rattle.values.proofs.why_first.Goals as goal

pub returns-then-not-state_fits : goal.returns-then-not-state_fits
returns-then-not-state_fits c = refuse-yes _ _ _ _ (ap not (sym c.state_fits.ensures) ∙ c.if-not-state_fits.true-raw) refl

pub returns-then-n-eq0 : goal.returns-then-n-eq0
returns-then-n-eq0 c = refuse-no _ _ _ _ (ap not (sym c.state_fits.ensures) ∙ c.if-not-state_fits.false-raw)
    (pick_yes _ _ _ _ _ refl (eq-eqb _ _ c.if-n-eq0.true) refl)

pub why_row-requires : goal.why_row-requires
why_row-requires c = fits-rows _ _ _ _ (sym c.state_fits.ensures ∙ c.if-not-state_fits.false)

pub returns : goal.returns
returns c = refuse-no _ _ _ _ (ap not (sym c.state_fits.ensures) ∙ c.if-not-state_fits.false-raw)
    (pick_no _ _ _ _ _ refl (ne_eqb _ _ c.if-n-eq0.false) c.why_row.ensures)
