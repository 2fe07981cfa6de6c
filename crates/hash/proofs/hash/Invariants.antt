use Rattle.std.proofs.Common.{◌≡◌}
use Rattle.hash.specs.Hash.{lane_a, lane_b}
use Rattle.hash.proofs.hash.Given as goal

abbrev pub invariant-loop-k : goal.invariant-loop-k
invariant-loop-k l = (l.h ≡ lane_a l.s l.k) × (l.g ≡ lane_b l.s l.k)
