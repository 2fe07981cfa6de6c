-- `reading::value` meets its contract. Assumes nothing.
use mathlib.Core.Path.{◌∙◌}
use Rattle.reading.proofs.LocatedLaws.{located-points, located-lies, located-bytes}
use Rattle.reading.proofs.value.Goals as goal

pub part_of-requires : goal.part_of-requires
part_of-requires c = located-lies _ _ _ _ _ _ _ c.locate-s.ensures

pub returns : goal.returns
returns c = (
  c.part_of.ensures.0 ∙ located-bytes _ _ _ _ _ _ _ c.locate-s.ensures,
  located-points _ _ _ _ _ _ _
      c.locate-s.ensures c.part_of.ensures.1,
)
