-- A null map is a list of bytes: the bit of row r is bit r % 8 of byte r / 8, the low bit first, and 1 says that the row is valid.
-- A column without a map has no nulls.
-- Assumes nothing.
use Rattle.std.specs.Prelude.{◌≡◌, ℕ, zero, suc, ◌+◌, ◌*◌, ◌/◌, ◌%◌, ◌^◌, ◌≤◌, Bool, true, false, List, eqb, get_or, set}

-- the bit of a row: 1 where it is valid, 0 where it is null
unfoldable pub bit_at : List ℕ → ℕ → ℕ
bit_at map row = get_or map (row / 8) 0 / 2 ^ (row % 8) % 2

unfoldable pub is_valid : List ℕ → ℕ → Bool
is_valid map row = eqb (bit_at map row) 1

-- the same of a column, whose map may be absent
unfoldable pub valid_at : List ℕ → Bool → ℕ → Bool
valid_at map true row = is_valid map row
valid_at map false row = true

-- how many of the rows first, first + 1, .. (rows of them) are valid
unfoldable pub count_valid : List ℕ → ℕ → ℕ → ℕ
count_valid map first zero = 0
count_valid map first (suc n) = count_valid map first n + bit_at map (first + n)

-- r is that count; and the bound that follows, which a caller that adds or takes away counts wants at hand
pub record Counted (map : List ℕ) (first rows r : ℕ) : Type 0 where
  pub is : r ≡ count_valid map first rows
  pub most : r ≤ rows

abbrev pub null_of : Bool → ℕ
null_of true = 0
null_of false = 1

-- how many rows of a column's run are null
unfoldable pub count_nulls : List ℕ → Bool → ℕ → ℕ → ℕ
count_nulls map mapped first zero = 0
count_nulls map mapped first (suc n) = count_nulls map mapped first n + null_of (valid_at map mapped (first + n))

abbrev pub bit_number : Bool → ℕ
bit_number true = 1
bit_number false = 0

-- the byte with the bit at pos written, the bits below it kept and those above it 0
abbrev pub put_in : ℕ → ℕ → Bool → ℕ
put_in old pos valid = old % 2 ^ pos + bit_number valid * 2 ^ pos

-- the map with the bit of a row written
unfoldable pub put_bit : List ℕ → ℕ → Bool → List ℕ
put_bit map row valid = set map (row / 8) (put_in (get_or map (row / 8) 0) (row % 8) valid)
