-- The words of a part of a slice, by those of the slice: cut off where the part ends. Assumes nothing.
use mathlib.Core.Path.{◌≡◌, sym, ◌∙◌}
use mathlib.Core.Bool.{Bool, true, false}
use mathlib.Core.List.{List}
use Prim.Native.Nat.{ℕ, ◌+◌, ◌-◌, ◌*◌, ◌/◌, ◌%◌, ◌^◌, min, ◌≤◌, ◌<◌}
use native.Mathlib.Nat.{mod-eq_of_lt, mod-lt, mul_comm, add_comm}
use native.Mathlib.Omega.{arith}
use borrow.Author.Tests.{leb-true, leb-false}
use lib.Dec.{leb}
use lib.ListN.{length, take, drop, length-drop}
use lib.Pow.{pow_pos, pow_mono, low, field, shl-shr, shl_exact}
use lib.Seq.{length-take-le}
use Rattle.words.specs.Words.{Bytes, word_at}
use Rattle.words.specs.WordLaws.{word_lt, word_split, word-past}
use Rattle.words.specs.ListLaws.{word-part}

-- the low k bytes of a word
word_low : (l : List ℕ) (i k m : ℕ) → Bytes l → word_at l i (k + m) % 2 ^ (8 * k) ≡ word_at l i k
word_low l i k m hb =
    let e : word_at l i (k + m) ≡ word_at l (i + k) m * 2 ^ (8 * k) + word_at l i k =
    word_split l i k m ∙ rw (mul_comm (2 ^ (8 * k)) (word_at l (i + k) m)) (add_comm (word_at l i k) (word_at l (i + k) m * 2 ^ (8 * k))) in
    rw e (low (word_at l (i + k) m) (8 * k) (word_lt l i k hb))

module _ (l : List ℕ) (a n : ℕ) (hb : Bytes l) (h : a + n ≤ length l) where
  pub part_length : length (take n (drop a l)) ≡ n
  part_length = length-take-le n (drop a l) (simp length-drop (omega arith))

  -- a word that the part ends in
  cut : (i k m : ℕ) → i + k ≡ n → word_at (take n (drop a l)) i (k + m) ≡ word_at l (a + i) (k + m) % 2 ^ (8 * k)
  cut i k m e =
      let past : word_at (take n (drop a l)) (i + k) m ≡ 0 = word-past (take n (drop a l)) (i + k) m (omega (arith, part_length)) in
      let front : word_at (take n (drop a l)) i k ≡ word_at l (a + i) k = word-part l a n i k (omega arith) in
      word_split (take n (drop a l)) i k m ∙ rw (past, front) (sum (word_at l (a + i) k) (2 ^ (8 * k))) ∙ sym (word_low l (a + i) k m hb)
    where
      sum : (x p : ℕ) → x + p * 0 ≡ x
      sum x p = omega arith

  pub part-front : word_at l a 4 % 2 ^ (8 * min n 4) ≡ word_at (take n (drop a l)) 0 4
  part-front = by (leb n 4) (λ i. leb n 4)
    where
      by : (t : Bool) → leb n 4 ≡ t → word_at l a 4 % 2 ^ (8 * min n 4) ≡ word_at (take n (drop a l)) 0 4
      by true e =
          let s = leb-true n 4 e in
          let k : min n 4 ≡ n = omega arith in
          let w : n + (4 - n) ≡ 4 = omega arith in
          let z : a + 0 ≡ a = omega arith in
          let c = cut 0 n (4 - n) (omega arith) in
          rw k (sym (rw (w, z) at c))
      by false e =
          let s = leb-false n 4 e in
          let k : 8 * min n 4 ≡ 8 * 4 = omega arith in
          let z : a + 0 ≡ a = omega arith in
          rw k (mod-eq_of_lt (word_lt l a 4 hb) ∙ sym (rw z at (word-part l a n 0 4 (omega arith))))

  pub part-behind : n ≤ 12 → word_at l (a + 4) 8 % 2 ^ (8 * (n - 4)) ≡ word_at (take n (drop a l)) 4 8
  part-behind hn = by (leb n 4) (λ i. leb n 4)
    where
      by : (t : Bool) → leb n 4 ≡ t → word_at l (a + 4) 8 % 2 ^ (8 * (n - 4)) ≡ word_at (take n (drop a l)) 4 8
      by true e =
          let s = leb-true n 4 e in
          let k : 8 * (n - 4) ≡ 0 = omega arith in
          let one : word_at l (a + 4) 8 % 1 ≡ 0 = omega arith in
          rw k (one ∙ sym (word-past (take n (drop a l)) 4 8 (omega (arith, part_length))))
      by false e =
          let s = leb-false n 4 e in
          let w : n - 4 + (12 - n) ≡ 8 = omega arith in
          sym (rw w at (cut 4 (n - 4) (12 - n) (omega arith)))

-- shifted up and down again
shifted : (m s : ℕ) → s ≤ 64 → m * 2 ^ s % 2 ^ 64 / 2 ^ s ≡ m % 2 ^ (64 - s)
shifted m s h =
    let e : 64 - s + s ≡ 64 = omega arith in
    rw e at (field (m * 2 ^ s) (64 - s) s) ∙ rw (shl-shr m s)

pub one_shifted : (k : ℕ) → k ≤ 32 → 1 * 2 ^ k % 2 ^ 64 ≡ 2 ^ k
one_shifted k h = shl_exact {a = 1} 1 k 64 (omega arith) (omega arith) ∙ one (2 ^ k)
  where
    one : (p : ℕ) → 1 * p ≡ p
    one p = omega arith

pub front-lt : (f k : ℕ) → f < 2 ^ 32 → k ≤ 32 → f % (1 * 2 ^ k % 2 ^ 64) < 2 ^ 32
front-lt f k h hk =
    let most : 2 ^ k ≤ 2 ^ 32 = pow_mono hk in
    rw (one_shifted k hk) (omega (arith, mod-lt f (pow_pos k)))

pub none-behind : (m n : ℕ) → n ≤ 4 → 0 ≡ m % 2 ^ (8 * (n - 4))
none-behind m n h =
    let k : 8 * (n - 4) ≡ 0 = omega arith in
    rw k (nothing m)
  where
    nothing : (m : ℕ) → 0 ≡ m % 1
    nothing m = omega arith

pub some-behind : (m n : ℕ) → 4 ≤ n → n ≤ 12 → m * 2 ^ (8 * (12 - n)) % 2 ^ 64 / 2 ^ (8 * (12 - n)) ≡ m % 2 ^ (8 * (n - 4))
some-behind m n h k =
    let e : 64 - 8 * (12 - n) ≡ 8 * (n - 4) = omega arith in
    rw e at (shifted m (8 * (12 - n)) (omega arith))
