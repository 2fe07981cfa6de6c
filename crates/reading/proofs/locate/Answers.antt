-- `reading::locate` meets its contract. Assumes nothing.
use mathlib.Core.Path.{sym, ◌∙◌}
use native.Mathlib.Omega.{arith}
use Rattle.reading.proofs.ReadingLaws.{value-unfit, value-past}
use Rattle.reading.proofs.LocatedLaws.{located-no, located-is}
use Rattle.bounds.specs.declared.Refusal.TheVariants.{Fit, Row}
use Rattle.bounds.specs.Bounds.{row-limit-small}
use Rattle.column.proofs.FitLaws.{fits_gives, fits-row}
use Rattle.column.proofs.ReachLaws.{spot-bare}
use Rattle.reading.proofs.locate.Goals as goal

pub returns-then-not-fits : goal.returns-then-not-fits
returns-then-not-fits c = located-no _ _ _ Fit (value-unfit _ _ _ (sym c.fits.ensures ∙ c.if-not-fits.true))

pub returns-then-c-row : goal.returns-then-c-row
returns-then-c-row c = located-no _ _ _ Row (value-past _ _ _ (sym c.fits.ensures ∙ c.if-not-fits.false) c.if-c-row.true)

pub overflow_add-c : goal.overflow_add-c
overflow_add-c c = let g = fits_gives _ _ _ _ _ _ (sym c.fits.ensures ∙ c.if-not-fits.false) in
    omega (arith, row-limit-small)

pub spot_at-requires : goal.spot_at-requires
spot_at-requires c = fits-row _ _ _ _ _ _ _ (sym c.fits.ensures ∙ c.if-not-fits.false)
    c.if-c-row.false

pub returns : goal.returns
returns c = located-is _ _ _ (sym c.fits.ensures
    ∙ c.if-not-fits.false) c.if-c-row.false _ _ (c.spot_at.ensures
    ∙ spot-bare _ _ _ _ _ _ _ _) c.judged.ensures
