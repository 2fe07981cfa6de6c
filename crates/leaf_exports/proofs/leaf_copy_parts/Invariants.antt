use Rattle.std.proofs.Common.{◌≡◌, ◌*◌, length}
use Rattle.copy.specs.Over.{copied_up_to}
use Rattle.leaf_exports.proofs.leaf_copy_parts.Given as goal

abbrev pub invariant-loop-k : goal.invariant-loop-k
invariant-loop-k l = (length l.dst ≡ length l.initial.dst) × (l.dst ≡ copied_up_to l.initial.dst l.src (l.k * l.n))
