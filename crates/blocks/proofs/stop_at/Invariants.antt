-- `blocks::stop_at` meets its contract. The invariant: all places passed hold. Assumes nothing.
use Rattle.blocks.specs.PlacesLaws.{Passed}
use Rattle.blocks.proofs.stop_at.Given as goal

abbrev pub invariant-loop-k : goal.invariant-loop-k
invariant-loop-k l = Passed l.views l.bytes l.table l.c l.places l.k
