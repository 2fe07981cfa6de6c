-- `reading::walk_start` meets its contract. Assumes nothing.
use mathlib.Core.Path.{refl}
use Rattle.reading.specs.Walk.{walk_start}
use Rattle.reading.proofs.walk_start.Goals as goal

pub returns : goal.returns
unfolding walk_start
returns c = refl
