-- `column::true_with` meets its contract. Assumes nothing.
use mathlib.Core.Path.{sym, ap, ◌∙◌}
use mathlib.Core.List.{[]}
use lib.ListN.{length}
use Rattle.column.proofs.SpotLaws.{spot-lies, spot-length, spot_is, spot-reaches, spot-shown}
use Rattle.column.proofs.TruthLaws.{untrue-reach, untrue-honest, true-kind}
use Rattle.column.proofs.true_with.Goals as goal

pub returns-then-not-is_reached : goal.returns-then-not-is_reached
returns-then-not-is_reached c = λ table nulls e. untrue-reach _ _ _ _ [] (sym (spot-reaches _ _ _ _ _ _ _ c.room_of.ensures
    c.spot_with-s.ensures table nulls e) ∙ sym c.is_reached.ensures ∙ c.if-not-is_reached.true)

pub part_of-value-requires : goal.part_of-value-requires
part_of-value-requires c = spot-lies _ _ _ _ _ _ _ c.room_of.ensures c.spot_with-s.ensures
    c.requires

pub honest_at-requires : goal.honest_at-requires
honest_at-requires c = (
  c.requires,
  ap length c.part_of-value.ensures.0 ∙ spot-length _ _ _ _ _ _ _ c.room_of.ensures
      c.spot_with-s.ensures (sym c.is_reached.ensures ∙ c.if-not-is_reached.false) c.requires,
)

pub returns-else-honest_at : goal.returns-else-honest_at
returns-else-honest_at c =
    λ table nulls e. c.if-honest_at.false ∙ untrue-honest _ _ _ _ _ (c.part_of-value.ensures.0
    ∙ spot-shown _ _ _ _ _ _ _ (spot_is _ _ _ _ _ _ _ c.room_of.ensures c.spot_with-s.ensures table nulls e)
    (sym c.is_reached.ensures ∙ c.if-not-is_reached.false))
    (sym (spot-reaches _ _ _ _ _ _ _ c.room_of.ensures c.spot_with-s.ensures table nulls e)
    ∙ sym c.is_reached.ensures ∙ c.if-not-is_reached.false)
    (sym c.honest_at.ensures ∙ c.if-honest_at.false)

pub returns-then-honest_at : goal.returns-then-honest_at
returns-then-honest_at c =
    λ table nulls e. c.of_kind.ensures ∙ true-kind _ _ _ _ _ (c.part_of-value.ensures.0
    ∙ spot-shown _ _ _ _ _ _ _ (spot_is _ _ _ _ _ _ _ c.room_of.ensures c.spot_with-s.ensures table nulls e)
    (sym c.is_reached.ensures ∙ c.if-not-is_reached.false))
    (sym (spot-reaches _ _ _ _ _ _ _ c.room_of.ensures c.spot_with-s.ensures table nulls e) ∙ sym c.is_reached.ensures
    ∙ c.if-not-is_reached.false) (sym c.honest_at.ensures ∙ c.if-honest_at.true)
