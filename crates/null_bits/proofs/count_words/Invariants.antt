use mathlib.Core.Path.{◌≡◌}
use Prim.Native.Nat.{◌*◌}
use Rattle.null_bits.specs.Bits.{count_valid}
use Rattle.null_bits.proofs.count_words.Given as goal

abbrev pub invariant-loop-k : goal.invariant-loop-k
invariant-loop-k l = l.n ≡ count_valid l.map (8 * l.i) (64 * l.k)
