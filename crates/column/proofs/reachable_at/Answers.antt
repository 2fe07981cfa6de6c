-- `column::reachable_at` meets its contract. Assumes nothing.
use mathlib.Core.Path.{◌∙◌}
use Rattle.column.proofs.SpotLaws.{found-reach}
use Rattle.column.proofs.reachable_at.Goals as goal

pub returns : goal.returns
returns c = c.is_reached.ensures ∙ found-reach _ _ _ _ _ _ _ c.spot_at.ensures
