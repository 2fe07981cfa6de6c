use mathlib.Core.Path.{◌≡◌}
use Prim.Native.Nat.{◌*◌}
use Rattle.null_bits.specs.Bits.{count_valid}
use Rattle.null_bits.proofs.count_bytes.Given as goal

abbrev pub invariant-loop-byte : goal.invariant-loop-byte
invariant-loop-byte l = l.n ≡ count_valid l.map (8 * l.i) (8 * l.byte-index)
