-- `column::reach_at` meets its contract. Assumes nothing.
use mathlib.Core.Path.{ap, ◌∙◌}
use Rattle.column.proofs.SpotLaws.{spot-reach}
use Rattle.column.specs.Truth.{reach_by}
use Rattle.column.proofs.reach_at.Goals as goal

pub returns : goal.returns
returns c = c.reach_of.ensures ∙ ap reach_by c.spot_at.ensures ∙ spot-reach _ _ _ _
