-- `column::fits` meets its contract. Assumes nothing.
use mathlib.Core.Path.{sym, ◌∙◌}
use Rattle.column.proofs.FitLaws.{length-table}
use Rattle.column.proofs.fits.Goals as goal

pub returns : goal.returns
returns c = c.fits_with.ensures.1 _ _ (c.min.ensures ∙ sym (length-table _ _))
