use Rattle.null_bits.specs.Runs.{copy_bits}
use mathlib.Core.Path.{◌≡◌}
use Rattle.null_bits.proofs.runs.copy_few.Given as goal

abbrev pub invariant-loop-k : goal.invariant-loop-k
invariant-loop-k l = l.map ≡ copy_bits l.initial.map l.first l.src l.from l.k
