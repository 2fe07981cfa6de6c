-- What a run of written bits means for later reads and counts. Where the run lies in the map, its rows read as written and rows before it as before.
-- Assumes nothing.
use Rattle.std.specs.Prelude.{◌≡◌, Bool, true, false, List}
use Rattle.std.proofs.Math.Path.{refl}
use Rattle.std.proofs.Common.{sym, ◌∙◌, add-zero, add-suc, add_assoc, zero-add, arith}
use Rattle.std.proofs.Math.Logic.{by_cases}
use Prim.Native.Nat.{ℕ, zero, suc, ◌+◌, ◌*◌, ◌/◌, ◌≤◌, ◌<◌}
use Rattle.std.proofs.Math.Decide.{ℕ_discrete}
use Rattle.std.proofs.Math.ListN.{length}
use Rattle.null_bits.specs.Bits.{is_valid, valid_at, null_of, count_nulls, put_bit}
use Rattle.null_bits.specs.Runs.{put_bits, put_run, copy_bits, copy_column}
use Rattle.null_bits.proofs.CountLaws.{valid-map}
use Rattle.null_bits.proofs.PutLaws.{length-put-bit, valid-put-same, valid-put-before}

pub length-bits : (map : List ℕ) (first : ℕ) (bits : ℕ → Bool) (n : ℕ) → length (put_bits map first bits n) ≡ length map
unfolding put_bits
length-bits map first bits zero = refl
length-bits map first bits (suc n) = length-put-bit (put_bits map first bits n) (first + n) (bits n) ∙ length-bits map first bits n

-- a run in two parts
pub bits-add : (map : List ℕ) (first : ℕ) (bits : ℕ → Bool) (m n : ℕ) → put_bits map first bits (m + n) ≡ put_bits (put_bits map first bits m)
    (first + m) (λ k. bits (m + k)) n
unfolding put_bits
bits-add map first bits m zero = rw add-zero
bits-add map first bits m (suc n) = rw (add-suc, bits-add map first bits m n, add_assoc first m n)

-- bits that agree write the same
pub bits-same : (map : List ℕ) (first : ℕ) (f g : ℕ → Bool) (n : ℕ) → ((k : ℕ) → k < n → f k ≡ g k) → put_bits map first f n ≡ put_bits map first g n
unfolding put_bits
bits-same map first f g zero h = refl
bits-same map first f g (suc n) h = rw (bits-same map first f g n (λ k l. h k (omega arith)), h n (omega arith))

module _ (map : List ℕ) (first : ℕ) (bits : ℕ → Bool) where
  -- a row before the run reads as before (an end theorem: nothing cites it)
  pub bits-before : (n j : ℕ) → first + n ≤ 8 * length map → j < first → is_valid (put_bits map first bits n) j ≡ is_valid map j
  unfolding put_bits
  bits-before zero j h l = refl
  bits-before (suc n) j h l =
      valid-put-before (put_bits map first bits n) (first + n) j (bits n) (rw (length-bits map first bits n) (omega arith)) (omega arith)
      ∙ bits-before n j (omega arith) l

  pub bits-read : (n k : ℕ) → first + n ≤ 8 * length map → k < n → is_valid (put_bits map first bits n) (first + k) ≡ bits k
  unfolding put_bits
  bits-read zero k h l = absurd (omega arith)
  bits-read (suc n) k h l =
      let room : (first + n) / 8 < length (put_bits map first bits n) = rw (length-bits map first bits n) (omega arith) in
      by_cases (ℕ_discrete k n)
      (λ e. rw e (valid-put-same (put_bits map first bits n) (first + n) (bits n) room))
      (λ d.
      valid-put-before (put_bits map first bits n) (first + n) (first + k) (bits n) room (omega arith)
      ∙ bits-read n k (omega arith) (omega arith))

-- a column's bits are its map's, or all valid
pub column-map : (map : List ℕ) (first : ℕ) (src : List ℕ) (mapped : Bool) (from n : ℕ) → mapped ≡ true → copy_bits map first src from n
    ≡ copy_column map first src mapped from n
unfolding valid_at
column-map map first src mapped from n e = bits-same map first (λ k. is_valid src (from + k)) (λ k. valid_at src mapped (from + k)) n (λ k l. rw e)

pub column-none : (map : List ℕ) (first : ℕ) (src : List ℕ) (mapped : Bool) (from n : ℕ) → mapped ≡ false → put_run map first n true
    ≡ copy_column map first src mapped from n
unfolding valid_at
column-none map first src mapped from n e = bits-same map first (λ k. true) (λ k. valid_at src mapped (from + k)) n (λ k l. rw e)

-- a column's rows that were copied read, and count their nulls, as their source
pub column-read : (map : List ℕ) (first : ℕ) (src : List ℕ) (mapped : Bool) (from n k : ℕ) → first + n ≤ 8 * length map → k < n
    → is_valid (copy_column map first src mapped from n) (first + k) ≡ valid_at src mapped (from + k)
column-read map first src mapped from n k h l = bits-read map first (λ j. valid_at src mapped (from + j)) n k h l

pub nulls-bits : (map : List ℕ) (first : ℕ) (src : List ℕ) (mapped : Bool) (from n : ℕ) → ((k : ℕ) → k < n → is_valid map (first + k)
    ≡ valid_at src mapped (from + k))
    → count_nulls map true first n ≡ count_nulls src mapped from n
unfolding count_nulls
nulls-bits map first src mapped from zero same = refl
nulls-bits map first src mapped from (suc n) same =
    let last : valid_at map true (first + n) ≡ valid_at src mapped (from + n) = valid-map map (first + n) ∙ same n (omega arith) in
    rw (nulls-bits map first src mapped from n (λ k l. same k (omega arith)), last)

-- an end theorem: nothing cites it
pub nulls-copied : (map : List ℕ) (first : ℕ) (src : List ℕ) (mapped : Bool) (from n : ℕ) → first + n ≤ 8 * length map
    → count_nulls (copy_column map first src mapped from n) true first n ≡ count_nulls src mapped from n
nulls-copied map first src mapped from n h = nulls-bits (copy_column map first src mapped from n) first src mapped from n (λ k l. column-read map first
    src mapped from n k h l)

-- a row appended counts as null or not, and the rows before it as before (an end theorem: nothing cites it)
pub nulls-append : (map : List ℕ) (row : ℕ) (v : Bool) → row / 8 < length map → count_nulls (put_bit map row v) true 0 (suc row) ≡ count_nulls map true 0
    row + null_of v
unfolding count_nulls
nulls-append map row v h =
    let now : valid_at (put_bit map row v) true (0 + row) ≡ v = rw zero-add (valid-map (put_bit map row v) row ∙ valid-put-same map row v h) in
    let before : count_nulls (put_bit map row v) true 0 row ≡ count_nulls map true 0 row =
    nulls-bits (put_bit map row v) 0 map true 0 row (λ k l. rw (zero-add k) (valid-put-before map row k v h l ∙ sym (valid-map map k))) in
    rw (now, before)
