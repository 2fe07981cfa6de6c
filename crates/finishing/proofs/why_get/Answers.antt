-- `finishing::why_get` meets its contract. Assumes nothing.
use mathlib.Core.Path.{sym, ◌∙◌}
use Rattle.finishing.proofs.GetLaws.{get_fit, get-late, get-bad, get-fine, row-reach}
use Rattle.builder.specs.RoomLaws.{fits_gives, ready}
use Rattle.finishing.proofs.why_get.Goals as goal

pub returns-then-not-fits_lent : goal.returns-then-not-fits_lent
returns-then-not-fits_lent c = get_fit _ _ _ _ _ _ _ _ (sym c.fits_lent.ensures ∙ c.if-not-fits_lent.true)

pub returns-then-s-r : goal.returns-then-s-r
returns-then-s-r c = get-late _ _ _ _ _ _ _ _ (sym c.fits_lent.ensures ∙ c.if-not-fits_lent.false) c.if-s-r.true

pub spot_row-requires : goal.spot_row-requires
spot_row-requires c =
    let f = fits_gives _ _ _ _ _ _ _
    (sym c.fits_lent.ensures ∙ c.if-not-fits_lent.false) in
    (ready _ _ _ _ _ _ _ f, c.if-s-r.false)

pub returns-then-not-is_reached : goal.returns-then-not-is_reached
returns-then-not-is_reached c = get-bad _ _ _ _ _ _ _ _ (sym c.fits_lent.ensures
    ∙ c.if-not-fits_lent.false) c.if-s-r.false
    (sym (row-reach _ _ _ _ _ _ _ c.spot_row.ensures) ∙ sym c.is_reached.ensures ∙ c.if-not-is_reached.true)

pub returns : goal.returns
returns c = get-fine _ _ _ _ _ _ _ _ (sym c.fits_lent.ensures
    ∙ c.if-not-fits_lent.false) c.if-s-r.false
    (sym (row-reach _ _ _ _ _ _ _ c.spot_row.ensures) ∙ sym c.is_reached.ensures ∙ c.if-not-is_reached.false)
