-- Bits of a run of rows, written one after the other.
-- Assumes nothing.
use Rattle.std.specs.Prelude.{Bool, List, ℕ, zero, suc, ◌+◌, ◌/◌, ◌%◌, ◌^◌, eqb, set}
use Rattle.null_bits.specs.Bits.{put_bit, is_valid, valid_at}

-- the map with the bits of the rows first, first + 1, .. (n of them) written, that of row first + k as `bits k` says
unfoldable pub put_bits : List ℕ → ℕ → (ℕ → Bool) → ℕ → List ℕ
put_bits map first bits zero = map
put_bits map first bits (suc n) = put_bit (put_bits map first bits n) (first + n) (bits n)

-- bit k of a number
unfoldable pub digit : ℕ → ℕ → Bool
digit x k = eqb (x / 2 ^ k % 2) 1

-- the map with a byte written n times, from byte i on
unfoldable pub put_bytes : List ℕ → ℕ → ℕ → ℕ → List ℕ
put_bytes map i x zero = map
put_bytes map i x (suc n) = set (put_bytes map i x n) (i + n) x

-- one bit for each of the rows
abbrev pub put_run : List ℕ → ℕ → ℕ → Bool → List ℕ
put_run map first n valid = put_bits map first (λ k. valid) n

-- the bits of the rows from, from + 1, .. of another map, and of another column, whose map may be absent
abbrev pub copy_bits : List ℕ → ℕ → List ℕ → ℕ → ℕ → List ℕ
copy_bits map first src from n = put_bits map first (λ k. is_valid src (from + k)) n

abbrev pub copy_column : List ℕ → ℕ → List ℕ → Bool → ℕ → ℕ → List ℕ
copy_column map first src mapped from n = put_bits map first (λ k. valid_at src mapped (from + k)) n
