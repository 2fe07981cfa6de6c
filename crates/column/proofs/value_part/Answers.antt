-- `column::value_part` meets its contract. Assumes nothing.
use mathlib.Core.Path.{ap, ◌∙◌}
use Rattle.column.proofs.SpotLaws.{spot-shown, found-lies, found-reach}
use Rattle.column.specs.Spot.{points_to}
use Rattle.column.proofs.value_part.Goals as goal

pub part_of-requires : goal.part_of-requires
part_of-requires c = found-lies _ _ _ _ _ _ _ c.spot_reached-s.ensures c.requires.0.row

pub returns : goal.returns
returns c =
    let s = c.args.l in (
      c.part_of.ensures.0
          ∙ spot-shown _ _ _ _ _ _ _ c.spot_reached-s.ensures (found-reach _ _ _ _ _ _ _ c.spot_reached-s.ensures ∙ c.requires.1),
      c.part_of.ensures.1 ∙ ap (points_to s.views.ref_ptr s.bytes.ref_ptr) c.spot_reached-s.ensures,
    )
