-- `reading::value_with` meets its contract. Assumes nothing.
use mathlib.Core.Path.{◌∙◌}
use Rattle.reading.proofs.LocatedLaws.{located-points, located-bytes}
use Rattle.reading.proofs.value_with.Goals as goal

pub returns : goal.returns
returns c = λ table sees. (
  c.part_of.ensures.0 ∙ located-bytes _ _ _ _ _ _ _ (c.locate_with-l.ensures.1 table sees),
  located-points _ _ _
      _ _ _ _ (c.locate_with-l.ensures.1 table sees) c.part_of.ensures.1,
)
