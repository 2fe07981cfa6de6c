use Rattle.builder.specs.State.{roomed}
use Rattle.builder.proofs.StepLaws.{pick_yes, pick_no}
use mathlib.Core.Path.{refl}
use Rattle.filing_values.proofs.make_room.Goals as goal

pub returns-then-fits_open : goal.returns-then-fits_open
unfolding roomed
returns-then-fits_open c = (
  pick_yes _ _ _ _ _ c.fits_open.ensures c.if-fits_open.true refl,
  pick_yes _ _ _ _ _ c.fits_open.ensures c.if-fits_open.true refl,
)

pub returns-else-fits_open : goal.returns-else-fits_open
unfolding roomed
returns-else-fits_open c = (
  pick_no _ _ _ _ _ c.fits_open.ensures c.if-fits_open.false c.fresh.ensures,
  pick_no _ _ _ _ _ c.fits_open.ensures c.if-fits_open.false c.put_open.ensures,
)
