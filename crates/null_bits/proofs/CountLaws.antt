-- Counts over runs of rows: by parts, by one row more, and nulls by valid rows.
-- Assumes nothing.
use Rattle.std.specs.Prelude.{◌≡◌, refl, Bool, true, false, List, ℕ, zero, suc, ◌+◌, ◌≤◌, ◌<◌, eqb}
use Rattle.std.proofs.Common.{add-zero, add-suc, add_assoc, arith, eqb-true, lit≤}
use Rattle.std.proofs.lemmas.Bool.{eqb-false}
use Rattle.null_bits.specs.Bits.{bit_at, is_valid, valid_at, null_of, bit_number, count_valid, count_nulls, Counted}

pub bit-lt : (map : List ℕ) (row : ℕ) → bit_at map row < 2
unfolding bit_at
bit-lt map row = omega arith

-- a bit is 1 or 0 as its row is valid or null
pub bit_is : (map : List ℕ) (row : ℕ) → bit_at map row ≡ bit_number (is_valid map row)
unfolding is_valid
bit_is map row = by (eqb (bit_at map row) 1) refl
  where
    by : (b : Bool) → eqb (bit_at map row) 1 ≡ b → bit_at map row ≡ bit_number b
    by true e = eqb-true (bit_at map row) 1 e
    by false e = let n = eqb-false (bit_at map row) 1 e in omega (arith, bit-lt map row)

-- a column's row by its map, and without one
pub valid-map : (map : List ℕ) (row : ℕ) → valid_at map true row ≡ is_valid map row
unfolding valid_at
valid-map map row = refl

-- a run of rows is counted in two parts
pub count_add : (map : List ℕ) (first a b : ℕ) → count_valid map first (a + b) ≡ count_valid map first a + count_valid map (first + a) b
unfolding count_valid
count_add map first a zero = simp add-zero
count_add map first a (suc b) = rw (add-suc, count_add map first a b, add_assoc (count_valid map first a) (count_valid map (first + a) b), add_assoc first a b)

-- no run has more valid rows than rows
pub count-le : (map : List ℕ) (first k : ℕ) → count_valid map first k ≤ k
unfolding count_valid
count-le map first zero = lit≤ tt
count-le map first (suc k) = omega (arith, count-le map first k, bit-lt map (first + k))

pub count-is : (map : List ℕ) (first rows r : ℕ) → r ≡ count_valid map first rows → Counted map first rows r
count-is map first rows r e = record { is = e; most = omega (arith, count-le map first rows) }

-- no map, no nulls
pub nulls-none : (map : List ℕ) (first k : ℕ) → count_nulls map false first k ≡ 0
unfolding count_nulls valid_at
nulls-none map first zero = refl
nulls-none map first (suc k) = rw add-zero (nulls-none map first k)

-- each row of a map's run is null or valid
pub nulls-valid : (map : List ℕ) (first k : ℕ) → count_nulls map true first k + count_valid map first k ≡ k
unfolding count_nulls count_valid valid_at
nulls-valid map first zero = refl
nulls-valid map first (suc k) = by (is_valid map (first + k)) (bit_is map (first + k)) (nulls-valid map first k)
  where
    by : (v : Bool) → bit_at map (first + k) ≡ bit_number v → count_nulls map true first k + count_valid map first k ≡ k
        → count_nulls map true first k + null_of v + (count_valid map first k + bit_at map (first + k)) ≡ suc k
    by true e more = omega arith
    by false e more = omega arith
