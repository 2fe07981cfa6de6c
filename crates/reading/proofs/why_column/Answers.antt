-- `reading::why_column` meets its contract. Assumes nothing.
use mathlib.Core.Path.{sym, ◌∙◌}
use Rattle.reading.proofs.ReadingLaws.{column-unfit, column-fit}
use Rattle.reading.proofs.why_column.Goals as goal

pub returns-else-fits : goal.returns-else-fits
returns-else-fits c = column-unfit _ _ (sym c.fits.ensures ∙ c.if-fits.false)

pub returns-then-fits : goal.returns-then-fits
returns-then-fits c = column-fit _ _ (sym c.fits.ensures ∙ c.if-fits.true)
