-- No second answer to a step or to the question whether a state fits. Assumes nothing.
use mathlib.Core.Path.{sym, ◌∙◌}
use Rattle.basis.specs.Only.{Only}
use Rattle.growth.proofs.Growth.fits.Kinds as fits-kinds
use Rattle.growth.proofs.Growth.fits.Reads as fits
use Rattle.growth.proofs.Growth.step.Kinds as step-kinds
use Rattle.growth.proofs.Growth.step.Reads as step

pub one-fit : Only fits-kinds.ps fits-kinds.r fits.Post (λ κs z s. z)
one-fit κs a z z' s s' p q = p ∙ sym q

pub one-step : Only step-kinds.ps step-kinds.r step.Post (λ κs z s. z)
one-step κs a z z' s s' p q = p ∙ sym q
