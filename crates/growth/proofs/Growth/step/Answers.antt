-- `Growth::step` meets its contract. Assumes nothing.
use mathlib.Core.Path.{sym, ◌∙◌}
use Rattle.growth.specs.GrowthLaws.{not-true, not-false, doubling-is, step-refused, step-fixed, step-doubling, size-next}
use Rattle.growth.proofs.Growth.step.Goals as goal

pub returns-then-not-fits : goal.returns-then-not-fits
returns-then-not-fits c = sym (step-refused _ (not-true _ _ c.fits.ensures c.if-not-fits.true-raw))

pub returns-in-Fixed : goal.returns-in-Fixed
returns-in-Fixed c = sym (step-fixed _ _ c.in-Fixed.is (not-false _ _ c.fits.ensures
    c.if-not-fits.false-raw))

pub returns-in-Doubling : goal.returns-in-Doubling
returns-in-Doubling c =
    let g = c.in-Doubling.is in
    let fits = not-false _ _ c.fits.ensures c.if-not-fits.false-raw in
    sym (step-doubling _ _ _ g fits (size-next _ _ c.next_size-n.ensures (sym (doubling-is _ _ g) ∙ fits)))
