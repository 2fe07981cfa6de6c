-- `finishing::get_value` meets its contract. Assumes nothing.
use Rattle.column.specs.Spot.{points_to}
use mathlib.Core.Path.{refl, sym, ap, ◌∙◌}
use Rattle.bounds.specs.Refusals.{is_accepted}
use Rattle.finishing.proofs.GetLaws.{got, value-no, value-yes, points-no, points-yes, row_lies, row-shown}
use Rattle.builder.specs.RoomLaws.{fits_gives, ready}
use native.Mathlib.Omega.{arith}
use Rattle.finishing.proofs.get_value.Goals as goal

pub returns-then-is_err : goal.returns-then-is_err
returns-then-is_err c = (
  value-no _ _ _ _ _ _ _ _ _ _ c.why_get.ensures c.if-is_err.ensures.negation refl,
  points-no _ _ _ _ _ _ _ _ _ _ _ _ c.why_get.ensures c.if-is_err.ensures.negation refl,
)

pub spot_row-requires : goal.spot_row-requires
spot_row-requires c =
    let g = got _ _ _ _ _ _ _ _
    (ap is_accepted (sym c.why_get.ensures) ∙ c.if-is_err.ensures.negation) in
    let f = fits_gives _ _ _ _ _ _ _ g.fit in
    (ready _ _ _ _ _ _ _ f, g.row)

pub part_of-requires : goal.part_of-requires
part_of-requires c =
    let g = got _ _ _ _ _ _ _ _
    (ap is_accepted (sym c.why_get.ensures) ∙ c.if-is_err.ensures.negation) in
    let f = fits_gives _ _ _ _ _ _ _ g.fit in
    let k = ready _ _ _ _ _ _ _ f in
    row_lies _ _ _ _ _ _ _ c.spot_row.ensures (omega (arith, g.row, k.rows))

pub returns : goal.returns
returns c =
    let a = c.args in
    let g = got _ _ _ _ _ _ _ _
    (ap is_accepted (sym c.why_get.ensures) ∙ c.if-is_err.ensures.negation) in (
      value-yes _ _ _ _ _ _ _ _ _ _ c.why_get.ensures c.if-is_err.ensures.negation (c.part_of.ensures.0 ∙ row-shown _ _ _ _ _ _ _ c.spot_row.ensures g.reach),
      points-yes _ _ _ _ _ _ _ _ _ _ _ _ c.why_get.ensures c.if-is_err.ensures.negation (c.part_of.ensures.1 ∙ ap (points_to a.views.ref_ptr a.bytes.ref_ptr)
          c.spot_row.ensures),
    )
