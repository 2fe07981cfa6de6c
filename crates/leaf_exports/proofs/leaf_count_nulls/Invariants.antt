use Rattle.leaf_exports.specs.Batches.{summed}
use Rattle.null_bits.specs.Bits.{count_nulls}
use Rattle.std.proofs.Common.{◌≡◌, ◌+◌, ◌/◌, ◌%◌, ◌≤◌, true, length}
use Rattle.leaf_exports.proofs.leaf_count_nulls.Given as goal

abbrev pub invariant-loop-k : goal.invariant-loop-k
invariant-loop-k l = (l.rows / 8 + 9 ≤ length l.map) × (l.sum ≡ summed (λ j. count_nulls l.map true (j % 64) l.rows) l.k)
