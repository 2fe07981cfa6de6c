-- What a written bit means for later reads: the row reads as written, rows before it as before, and so the counts.
-- Assumes nothing.
use Rattle.std.specs.Prelude.{◌≡◌, refl, Bool, true, false, List, ℕ, suc, ◌+◌, ◌-◌, ◌*◌, ◌/◌, ◌%◌, ◌^◌, ◌≤◌, ◌<◌, eqb, length, get_or}
use Rattle.std.proofs.Common.{sym, ap, ◌∙◌, mod-lt, add_comm, lt_of_lt_of_le, arith, pow_pos, pow_mono, length-set, get_or-set_same, get_or-set_other}
use Rattle.std.proofs.Math.Logic.{by_cases}
use Rattle.std.proofs.Math.Nat.{div-eq_of_lt}
use Rattle.std.proofs.Math.Decide.{ℕ_discrete}
use Rattle.std.proofs.Math.Pow.{mod-mod-pow, field, high, low}
use Rattle.null_bits.specs.Bits.{bit_at, is_valid, put_bit, put_in, bit_number}

bit-one : (v : Bool) → bit_number v % 2 ≡ bit_number v
bit-one true = refl
bit-one false = refl

-- in one byte: the bit that was written, and one below it
put-in-same : (old p : ℕ) (v : Bool) → put_in old p v / 2 ^ p % 2 ≡ bit_number v
put-in-same old p v =
    rw (add_comm (old % 2 ^ p) (bit_number v * 2 ^ p), high (bit_number v) p (mod-lt old (pow_pos p))) (bit-one v)

put-in-lt : (old p : ℕ) (v : Bool) → put_in old p v < 2 ^ suc p
put-in-lt old p true = omega (arith, mod-lt old (pow_pos p))
put-in-lt old p false = omega (arith, mod-lt old (pow_pos p))

put-in-below : (old q d : ℕ) (v : Bool) → put_in old (d + (1 + q)) v / 2 ^ q % 2 ≡ old / 2 ^ q % 2
put-in-below old q d v =
    let p : ℕ = d + (1 + q) in
    let x : ℕ = put_in old p v in
    let whole : x % 2 ^ p ≡ old % 2 ^ p = ap (λ (n : ℕ). n % 2 ^ p) (add_comm (old % 2 ^ p) (bit_number v * 2 ^ p)) ∙ low (bit_number v) p (mod-lt old
    (pow_pos p)) in
    let part : x % 2 ^ (1 + q) ≡ old % 2 ^ (1 + q) =
    sym (mod-mod-pow x d (1 + q)) ∙ ap (λ (n : ℕ). n % 2 ^ (1 + q)) whole ∙ mod-mod-pow old d (1 + q) in
    sym (field x 1 q) ∙ ap (λ (n : ℕ). n / 2 ^ q) part ∙ field old 1 q

pub length-put-bit : (map : List ℕ) (row : ℕ) (v : Bool) → length (put_bit map row v) ≡ length map
unfolding put_bit
length-put-bit map row v = length-set map (row / 8) (put_in (get_or map (row / 8) 0) (row % 8) v)

-- a row reads as it was written
pub bit-put-same : (map : List ℕ) (row : ℕ) (v : Bool) → row / 8 < length map → bit_at (put_bit map row v) row ≡ bit_number v
unfolding bit_at put_bit
bit-put-same map row v h =
    rw (get_or-set_same map (row / 8) (put_in (get_or map (row / 8) 0) (row % 8) v) 0 h) (put-in-same (get_or map (row / 8) 0) (row % 8) v)

-- a row before it reads as before
pub bit-put-before : (map : List ℕ) (row j : ℕ) (v : Bool) → row / 8 < length map → j < row → bit_at (put_bit map row v) j ≡ bit_at map j
unfolding bit_at put_bit
bit-put-before map row j v h l =
    let old : ℕ = get_or map (row / 8) 0 in
    by_cases (ℕ_discrete (j / 8) (row / 8))
    (λ e.
    let p : row % 8 ≡ (row % 8 - (1 + j % 8)) + (1 + j % 8) = omega arith in
    rw (e, get_or-set_same map (row / 8) (put_in old (row % 8) v) 0 h)
    (ap (λ (n : ℕ). put_in old n v / 2 ^ (j % 8) % 2) p ∙ put-in-below old (j % 8) (row % 8 - (1 + j % 8)) v))
    (λ n. rw (get_or-set_other map (row / 8) (j / 8) (put_in old (row % 8) v) 0 n))

-- a later row of the byte is 0 (an end theorem: nothing cites it)
pub bit-put-after : (map : List ℕ) (row j : ℕ) (v : Bool) → row / 8 < length map → row < j → j / 8 ≡ row / 8 → bit_at (put_bit map row v) j ≡ 0
unfolding bit_at put_bit
bit-put-after map row j v h l e =
    let x : ℕ = put_in (get_or map (row / 8) 0) (row % 8) v in
    let top : x < 2 ^ suc (row % 8) = put-in-lt (get_or map (row / 8) 0) (row % 8) v in
    let more : 2 ^ suc (row % 8) ≤ 2 ^ (j % 8) = pow_mono (omega arith) in
    rw (e, get_or-set_same map (row / 8) x 0 h) (rw (div-eq_of_lt (lt_of_lt_of_le top more)))

-- the same of valid and null
pub valid-put-same : (map : List ℕ) (row : ℕ) (v : Bool) → row / 8 < length map → is_valid (put_bit map row v) row ≡ v
unfolding is_valid
valid-put-same map row v h = rw (bit-put-same map row v h) (by v)
  where
    by : (w : Bool) → eqb (bit_number w) 1 ≡ w
    by true = refl
    by false = refl

pub valid-put-before : (map : List ℕ) (row j : ℕ) (v : Bool) → row / 8 < length map → j < row → is_valid (put_bit map row v) j ≡ is_valid map j
unfolding is_valid
valid-put-before map row j v h l = rw (bit-put-before map row j v h l)
