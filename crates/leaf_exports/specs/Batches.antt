-- What the batches answer: sums modulo 2 ^ 64 over runs of rows and over neighbouring values, and parts copied. Assumes nothing.
use Rattle.std.specs.Prelude.{ℕ, zero, suc, ◌+◌, ◌-◌, ◌*◌, ◌/◌, ◌%◌, ◌^◌, min, Bool, true, List, length, slice_index, slice_range}
use Prim.Native.Nat.{Ordering}
use Rattle.basis.specs.Pick.{pick, if_le}
use Rattle.null_bits.specs.Bits.{count_nulls}
use Rattle.copy.specs.Over.{copied_up_to}
use Rattle.order.specs.Order.{cmp, same}

-- f 0 + f 1 + .. (n of them)
unfoldable pub summed : (ℕ → ℕ) → ℕ → ℕ
summed f zero = 0
summed f (suc n) = (summed f n + f n) % 2 ^ 64

-- runs that start at row 0, 1, .. 63, 0, ..: all of them lie in a map of nine bytes more than a run's whole ones
unfoldable pub nulls_batch : List ℕ → ℕ → ℕ → ℕ
nulls_batch map rows times = if_le (rows / 8 + 9) (length map) (summed (λ k. count_nulls map true (k % 64) rows) times) 0

-- the whole parts of n bytes that both lists have, copied
unfoldable pub parts_copied : List ℕ → List ℕ → ℕ → List ℕ
parts_copied s d n = copied_up_to d s (min (length s) (length d) / n * n)

abbrev pub one_if_less : Ordering → ℕ
one_if_less Ordering.lt = 1
one_if_less Ordering.eq = 0
one_if_less Ordering.gt = 0

-- one of two values' numbers, where both lie in the bytes, else 0
unfoldable pub if_in : List ℕ → ℕ → ℕ → ℕ → ℕ → ℕ
if_in l s m e x = if_le s m (if_le m e (if_le e (length l) x 0) 0) 0

abbrev pub slice_part : List ℕ → ℕ → ℕ → List ℕ
slice_part l s e = slice_range l s e

-- 1 or 0 for two neighbouring values: whether they are the same, or the first is below the second
unfoldable pub pair_in : List ℕ → ℕ → ℕ → ℕ → Bool → ℕ
pair_in l s m e sameness = if_in l s m e (pick sameness (pick (same (slice_part l s m) (slice_part l m e)) 1 0) (one_if_less (cmp (slice_part l s m)
    (slice_part l m e))))

unfoldable pub pairs_batch : List ℕ → List ℕ → Bool → ℕ
pairs_batch l ends sameness = summed (λ k. pair_in l (slice_index ends k) (slice_index ends (k + 1)) (slice_index ends (k + 2)) sameness) (length ends - 2)
