-- `reading::walk_value` meets its contract. Assumes nothing.
use Rattle.reading.specs.Walk.{walk_value}
use Rattle.reading.proofs.walk_value.Goals as goal

pub returns : goal.returns
unfolding walk_value
returns c = c.value.ensures
