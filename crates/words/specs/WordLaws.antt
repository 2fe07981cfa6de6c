-- Laws of numbers in bytes. Assumes nothing.
use Rattle.std.specs.Prelude.{◌≡◌, refl, List, ℕ, zero, suc, ◌+◌, ◌-◌, ◌*◌, ◌/◌, ◌%◌, ◌^◌, ◌≤◌, ◌<◌, length, get_or, set}
use Rattle.std.proofs.Common.{sym, ◌∙◌, add-zero, add-suc, add_assoc, mul-suc, mul-zero, zero-mul, mul-add, mul_left_comm, mul_comm, add_comm, div-one, one-add, lit<, pow-add, shr-shr, arith, length-set}
use Rattle.std.proofs.Math.Arith.{digits_lt}
use Rattle.std.proofs.Math.Pow.{high}
use Rattle.std.proofs.Math.ListN.{get_or-eq_default}
use Rattle.words.specs.Words.{Bytes, word_at, be_at, put_word}

-- the sums that the code writes
pub be4 : (l : List ℕ) (i : ℕ) → ((get_or l i 0 * 256 + get_or l (i + 1) 0) * 256 + get_or l (i + 2) 0) * 256 + get_or l (i + 3) 0 ≡ be_at l i 4
unfolding be_at
be4 l i = rw (add-zero i) (omega arith)

pub be8 : (l : List ℕ) (i : ℕ) → 4294967296 * be_at l i 4 + be_at l (i + 4) 4 ≡ be_at l i 8
unfolding be_at
be8 l i = rw (add-zero (i + 4), add_assoc i 4 1, add_assoc i 4 2, add_assoc i 4 3) (omega arith)

pub le4 : (l : List ℕ) (i : ℕ) → get_or l i 0 + 256 * get_or l (i + 1) 0 + 65536 * get_or l (i + 2) 0 + 16777216 * get_or l (i + 3) 0 ≡ word_at l i 4
unfolding word_at
le4 l i = rw (add-zero i) (omega arith)

pub le8 : (l : List ℕ) (i : ℕ)
    → get_or l i 0 + 256 * get_or l (i + 1) 0 + 65536 * get_or l (i + 2) 0 + 16777216 * get_or l (i + 3) 0 + 4294967296 * get_or l (i + 4) 0 + 1099511627776
    * get_or l (i + 5) 0 + 281474976710656 * get_or l (i + 6) 0 + 72057594037927936 * get_or l (i + 7) 0 ≡ word_at l i 8
unfolding word_at
le8 l i = rw (add-zero i) (omega arith)

pub word_lt : (l : List ℕ) (i n : ℕ) → Bytes l → word_at l i n < 2 ^ (8 * n)
unfolding word_at
word_lt l i zero hb = lit< tt
word_lt l i (suc n) hb =
    rw (mul-suc 8 n, add_comm (8 * n) 8, pow-add 2 8 (8 * n))
    (digits_lt {q = get_or l (i + n) 0} {m = 2 ^ 8} {c = 2 ^ (8 * n)} (hb (i + n)) (word_lt l i n hb))

-- the stores that the code writes
pub put4 : (l : List ℕ) (i v : ℕ)
    → set (set (set (set l i (v % 256)) (i + 1) (v / 256 % 256)) (i + 2) (v / 65536 % 256)) (i + 3) (v / 16777216 % 256) ≡ put_word l i v 4
unfolding put_word
put4 l i v = rw (add-zero i, div-one v)

pub put8 : (l : List ℕ) (i v : ℕ) → put_word (put_word l i v 4) (i + 4) (v / 4294967296) 4 ≡ put_word l i v 8
unfolding put_word
put8 l i v =
    let a : v / 4294967296 / 2 ^ 8 ≡ v / 2 ^ 40 = shr-shr v 32 8 in
    let b : v / 4294967296 / 2 ^ 16 ≡ v / 2 ^ 48 = shr-shr v 32 16 in
    let d : v / 4294967296 / 2 ^ 24 ≡ v / 2 ^ 56 = shr-shr v 32 24 in
    rw (add-zero (i + 4), add_assoc i 4 1, add_assoc i 4 2, add_assoc i 4 3, div-one (v / 4294967296), a, b, d)

pub length-put : (l : List ℕ) (i v n : ℕ) → length (put_word l i v n) ≡ length l
unfolding put_word
length-put l i v zero = refl
length-put l i v (suc n) = length-set (put_word l i v n) (i + n) (v / 2 ^ (8 * n) % 256) ∙ length-put l i v n

-- a number in two parts
pub word_split : (l : List ℕ) (i d m : ℕ) → word_at l i (d + m) ≡ word_at l i d + 2 ^ (8 * d) * word_at l (i + d) m
unfolding word_at
word_split l i d zero = rw (add-zero d, mul-zero (2 ^ (8 * d)), add-zero (word_at l i d))
word_split l i d (suc m) =
    rw (add-suc d m, word_split l i d m, ← add_assoc i d m, mul-add 8 d m, pow-add 2 (8 * d) (8 * m))
    (shuffle (get_or l (i + d + m) 0) (2 ^ (8 * d)) (2 ^ (8 * m)) (word_at l i d) (word_at l (i + d) m))
  where
    shuffle : (g p q w x : ℕ) → g * (p * q) + (w + p * x) ≡ w + p * (g * q + x)
    shuffle g p q w x = rw (mul-add p (g * q) x) (omega (arith, mul_left_comm g p q))

pub word-one : (l : List ℕ) (i : ℕ) → word_at l i 1 ≡ get_or l i 0
unfolding word_at
word-one l i = rw (add-zero i) (omega arith)

-- byte j of a number read is the byte read there
pub word-digit : (l : List ℕ) (i j m : ℕ) → Bytes l → word_at l i (j + suc m) / 2 ^ (8 * j) % 256 ≡ get_or l (i + j) 0
word-digit l i j m hb =
    let cut : word_at l (i + j) (suc m) ≡ get_or l (i + j) 0 + 256 * word_at l (i + j + 1) m = rw (← word-one l (i + j))
    (rw (one-add m) at (word_split l (i + j) 1 m)) in
    rw (
      word_split l i j (suc m),
      add_comm (word_at l i j) (2 ^ (8 * j) * word_at l (i + j) (suc m)),
      mul_comm (2 ^ (8 * j)) (word_at l (i + j) (suc m)),
      high (word_at l (i + j) (suc m)) (8 * j) (word_lt l i j hb),
    )
    (omega (arith, hb (i + j)))

-- no byte past the end, so no part of the number
pub word-past : (l : List ℕ) (i n : ℕ) → length l ≤ i → word_at l i n ≡ 0
unfolding word_at
word-past l i zero h = refl
word-past l i (suc n) h =
    let z : get_or l (i + n) 0 ≡ 0 = get_or-eq_default l 0 (omega arith) in
    rw (z, word-past l i n h) (omega (arith, zero-mul (2 ^ (8 * n))))

-- the four bytes that end the list, moved down, are those from i on
pub word-tail : (l : List ℕ) (i : ℕ) → Bytes l → 4 ≤ length l → i ≤ length l → length l ≤ i + 4 → word_at l (length l - 4) 4 / 2 ^
    (8 * (i + 4 - length l)) ≡ word_at l i 4
word-tail l i hb h k m = by (i + 4 - length l) (length l - i) (length l - 4) (omega arith) (omega arith) (omega arith)
  where
    by : (d e b : ℕ) → d + e ≡ 4 → b + d ≡ i → i + e ≡ length l → word_at l b 4 / 2 ^ (8 * d) ≡ word_at l i 4
    by d e b p q r =
        let whole : word_at l i 4 ≡ word_at l i e + 2 ^ (8 * e) * word_at l (i + e) d = rw (← p, add_comm d e) (word_split l i e d) in
        let none : word_at l (i + e) d ≡ 0 = word-past l (i + e) d (omega arith) in
        let both : word_at l b 4 ≡ word_at l b d + 2 ^ (8 * d) * word_at l i e = rw (p, q) at (word_split l b d e) in
        rw (both, add_comm (word_at l b d) (2 ^ (8 * d) * word_at l i e), mul_comm (2 ^ (8 * d)) (word_at l i e), high (word_at l i e) (8 * d) (word_lt l b d hb))
        (sym (rw none at whole ∙ rw (mul-zero (2 ^ (8 * e))) (add-zero (word_at l i e))))
