-- A hash of at least eight bytes: two lanes of words, an overlapping last word. It mirrors its code, and there is nothing in it that a
-- reader must believe: what is needed of it is that it is a function of the bytes, so that equal values are looked for at the same place of
-- the merge table. Whether two values are equal is asked of their bytes, never of their hashes. Assumes nothing.
use Rattle.std.specs.Prelude.{ℕ, zero, suc, ◌+◌, ◌-◌, ◌*◌, ◌/◌, ◌%◌, ◌^◌, List, length, bit_or, bit_xor, nat_lt}
use Rattle.basis.specs.Pick.{pick}
use Rattle.words.specs.Words.{word_at}

unfoldable pub rotl : ℕ → ℕ
rotl a = bit_or (a * 2 ^ 5 % 2 ^ 64) (a / 2 ^ 59)

unfoldable pub mixed : ℕ → ℕ → ℕ → ℕ
mixed h w k = bit_xor (rotl h) w * k % 2 ^ 64

-- the lanes' multipliers: odd, with bits spread over the word
abbrev pub key_a : ℕ
key_a = 0x517cc1b727220a95

abbrev pub key_b : ℕ
key_b = 0x9e3779b97f4a7c15

-- the two lanes after k times sixteen bytes
unfoldable pub lane_a : List ℕ → ℕ → ℕ
lane_a s zero = length s
lane_a s (suc k) = mixed (lane_a s k) (word_at s (16 * k) 8) key_a

unfoldable pub lane_b : List ℕ → ℕ → ℕ
lane_b s zero = 0
lane_b s (suc k) = mixed (lane_b s k) (word_at s (16 * k + 8) 8) key_b

abbrev pub fold : ℕ → ℕ
fold x = bit_xor x (x / 2 ^ 32)

-- what is left after k times sixteen bytes, at most sixteen
unfoldable pub hash_closed : List ℕ → ℕ → ℕ
hash_closed s k =
    fold
    (mixed
    (mixed (lane_a s k) (word_at s (length s - 8) 8) key_a)
    (pick (nat_lt 8 (length s - 16 * k)) (mixed (lane_b s k) (word_at s (16 * k) 8) key_b) (lane_b s k))
    key_a)

unfoldable pub hash_of : List ℕ → ℕ
hash_of s = hash_closed s ((length s - 1) / 16)
