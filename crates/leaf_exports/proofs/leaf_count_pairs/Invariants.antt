use Rattle.leaf_exports.specs.Batches.{summed, pair_in}
use Rattle.std.proofs.Common.{◌≡◌, ◌+◌, get_or}
use Rattle.leaf_exports.proofs.leaf_count_pairs.Given as goal

abbrev pub invariant-loop-k : goal.invariant-loop-k
invariant-loop-k l =
    l.sum ≡ summed (λ j. pair_in l.bytes (get_or l.ends j 0) (get_or l.ends (j + 1) 0) (get_or l.ends (j + 2) 0) l.sameness) l.k
