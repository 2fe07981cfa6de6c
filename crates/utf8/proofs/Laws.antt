-- Laws of the code's way through the table: the bytes after the lead, the walk, and runs of ASCII bytes. Assumes nothing.
use mathlib.Core.Path.{◌≡◌, refl, sym, ap, ◌∙◌}
use mathlib.Core.Bool.{Bool, true, false, ◌&&◌}
use mathlib.Core.List.{List, [], ◌∷◌}
use Prim.Native.Nat.{ℕ, zero, suc, ◌+◌, ◌-◌, ◌*◌, ◌/◌, ◌^◌, ◌≤◌, ◌<◌}
use native.Mathlib.Nat.{add-zero, mul-suc, suc-mul, add_comm}
use native.Mathlib.Numerals.{add-one}
use native.Mathlib.Omega.{arith}
use borrow.Author.Count.{below_more}
use borrow.Author.Tests.{leb-true, leb-false, ltb-true, ltb-false}
use lib.Arith.{digits_lt}
use lib.Bits.{bit_and, bit_or, or_add_and, and_le_l, and_le_r, or_lt, and_block, or_block, and_shr}
use lib.Dec.{leb, ltb, lit<}
use lib.ListN.{length, get_or, drop, length-drop}
use lib.Pow.{pow-add, pow_pos}
use lib.Seq.{drop-cons, drop-drop, drop-length}
use Rattle.basis.specs.Pick.{pick}
use Rattle.words.specs.Words.{Bytes, word_at}
use Rattle.words.specs.WordLaws.{word_lt}
use Rattle.utf8.specs.Table.{Range, ◌‥◌, table, within, in_ranges, led, led_by, front_length, bad_after, walk}
use Rattle.utf8.specs.Lead.{next, nexts, tails_of}
use Rattle.utf8.specs.Text.{under, above-range, lead-row, fits-none, bad-skip, judge-one, judge-none}

-- lead bytes

-- a byte between two rows' first ranges, or past them all, begins no row
pub lead-80 : (b : ℕ) → 0x80 ≤ b → b ≤ 0xC1 → led b table ≡ []
unfolding led
lead-80 b p q =
    simp (
      above-range b (0x00 ‥ 0x7F) (omega arith),
      under b (0xC2 ‥ 0xDF) (omega arith),
      under b (0xE0 ‥ 0xE0) (omega arith),
      under b (0xE1 ‥ 0xEC) (omega arith),
      under b (0xED ‥ 0xED) (omega arith),
      under b (0xEE ‥ 0xEF) (omega arith),
      under b (0xF0 ‥ 0xF0) (omega arith),
      under b (0xF1 ‥ 0xF3) (omega arith),
      under b (0xF4 ‥ 0xF4) (omega arith),
    )

pub lead-f5 : (b : ℕ) → 0xF5 ≤ b → led b table ≡ []
unfolding led
lead-f5 b p =
    simp (
      above-range b (0x00 ‥ 0x7F) (omega arith),
      above-range b (0xC2 ‥ 0xDF) (omega arith),
      above-range b (0xE0 ‥ 0xE0) (omega arith),
      above-range b (0xE1 ‥ 0xEC) (omega arith),
      above-range b (0xED ‥ 0xED) (omega arith),
      above-range b (0xEE ‥ 0xEF) (omega arith),
      above-range b (0xF0 ‥ 0xF0) (omega arith),
      above-range b (0xF1 ‥ 0xF3) (omega arith),
      above-range b (0xF4 ‥ 0xF4) (omega arith),
    )

-- the lead byte at i, and what follows it
pub front_at : (s : List ℕ) (i : ℕ) {ts : List (List Range)} → i < length s → led (get_or s i 0) table ≡ ts → front_length (drop i s) ≡ led_by ts (drop (i + 1) s)
unfolding front_length
front_at s i h e = rw (drop-cons s i 0 h, add-one i, e)

-- the bytes after the lead

nexts-length : (n : ℕ) → length (nexts n) ≡ n
unfolding nexts
nexts-length zero = refl
nexts-length (suc n) = ap suc (nexts-length n)

-- too few bytes are left for the row's ranges
pub too_few : (n : ℕ) (r : Range) (s : List ℕ) (i : ℕ) → i < length s → 2 ≤ n → length s - i < n → 0 ≡ led_by (tails_of n r) (drop (i + 1) s)
unfolding tails_of led_by
too_few n r s i g m h = rw (fits-none (r ∷ nexts (n - 2)) (drop (i + 1) s) (simp (length-drop, nexts-length (n - 2)) (omega arith)))

fits_one : (r : Range) (rs : List Range) (s : List ℕ) (i j : ℕ) → i < length s → j ≡ suc i → in_ranges (r ∷ rs) (drop i s) ≡ within (get_or s i 0) r && in_ranges
    rs (drop j s)
unfolding in_ranges
fits_one r rs s i j h e = rw (drop-cons s i 0 h, e)

-- the second byte by its range, the others as bytes that go on
pub led-more : (n : ℕ) (r : Range) (s : List ℕ) (i : ℕ) → 2 ≤ n → i + n ≤ length s
    → pick (within (get_or s (i + 1) 0) r && in_ranges (nexts (i + n - (i + 2))) (drop (i + 2) s)) n 0 ≡ led_by (tails_of n r) (drop (i + 1) s)
unfolding tails_of led_by
led-more n r s i m h =
    let left : i + n - (i + 2) ≡ n - 2 = omega arith in
    let all : suc (suc (n - 2)) ≡ n = omega arith in
    rw (fits_one r (nexts (n - 2)) s (i + 1) (i + 2) (omega arith) (omega arith), left, nexts-length (n - 2), all)

and-true : (x : Bool) → x && true ≡ x
and-true true = refl
and-true false = refl

-- one byte more goes on
pub nexts-on : (s : List ℕ) (k e : ℕ) → k < e → e ≤ length s → in_ranges (nexts (e - k)) (drop k s) ≡ within (get_or s k 0) next && in_ranges
    (nexts (e - (k + 1))) (drop (k + 1) s)
unfolding nexts
nexts-on s k e h l =
    let one : e - k ≡ suc (e - (k + 1)) = omega arith in
    rw one (fits_one next (nexts (e - (k + 1))) s k (k + 1) (omega arith) (omega arith))

pub nexts-end : (s : List ℕ) (k e : ℕ) → k ≡ e → in_ranges (nexts (e - k)) (drop k s) ≡ true
unfolding nexts in_ranges
nexts-end s k e h = let none : e - k ≡ 0 = omega arith in rw none

pub nexts-last : (s : List ℕ) (k e : ℕ) → k + 1 ≡ e → e ≤ length s → in_ranges (nexts (e - k)) (drop k s) ≡ within (get_or s k 0) next
nexts-last s k e h l = rw (nexts-on s k e (omega arith) l, nexts-end s (k + 1) e h) (and-true (within (get_or s k 0) next))

-- the walk

-- a sequence is passed
pub bad-step : (s : List ℕ) (i n : ℕ) → i < length s → n ≡ front_length (drop i s) → (n ≡ 0 → ⊥) → i + n ≤ length s → walk (drop i s) ≡ n + walk (drop (i + n) s)
bad-step s i zero h e z l = absurd (z refl)
bad-step s i (suc n) h e z l =
    let d = drop-cons s i 0 h in
    let at : suc i + n ≡ i + suc n = omega arith in
    rw d
    (judge-one (get_or s i 0) n (drop (suc i) s) (rw (← d) (sym e))
    ∙ ap suc (bad-skip n (drop (suc i) s) (simp length-drop (omega arith)))
    ∙ rw (drop-drop n (suc i) s, at) (omega arith))

pub bad-here : (s : List ℕ) (i : ℕ) → i < length s → 0 ≡ front_length (drop i s) → walk (drop i s) ≡ 0
bad-here s i h e =
    let d = drop-cons s i 0 h in
    rw d (judge-none (get_or s i 0) (drop (suc i) s) (rw (← d) (sym e)))

pub bad-end : (s : List ℕ) (i : ℕ) → i ≡ length s → walk (drop i s) ≡ 0
unfolding bad_after
bad-end s i e = rw (e, drop-length s)

-- runs of ASCII bytes

pub ascii-one : (s : List ℕ) (i : ℕ) → i < length s → get_or s i 0 ≤ 127 → walk (drop i s) ≡ 1 + walk (drop (i + 1) s)
unfolding led_by in_ranges
ascii-one s i h a =
    bad-step s i 1 h (sym (front_at s i h (lead-row 0 (get_or s i 0) 0x00 0x7F [] (omega arith) refl (omega arith) a))) (λ e. omega arith) (omega arith)

pub ascii_run : (s : List ℕ) (i n : ℕ) → i + n ≤ length s → ((k : ℕ) → k < n → get_or s (i + k) 0 ≤ 127) → walk (drop i s) ≡ n + walk (drop (i + n) s)
ascii_run s i zero h a = rw (add-zero i) (omega arith)
ascii_run s i (suc n) h a =
    let at : i + n + 1 ≡ i + suc n = omega arith in
    ascii_run s i n (omega arith) (λ k l. a k (omega arith)) ∙ rw (ascii-one s (i + n) (omega arith) (a n (omega arith)), at) (omega arith)

-- a run that begins with an ASCII byte and ends at another byte isn't empty
pub moved : (s : List ℕ) (at i : ℕ) → at ≤ i → get_or s at 0 ≤ 127 → 127 < get_or s i 0 → at < i
moved s at i l a b = by (ltb at i) refl
  where
    by : (t : Bool) → ltb at i ≡ t → at < i
    by true e = ltb-true at i e
    by false e =
        let same : at ≡ i = omega (arith, ltb-false at i e) in
        absurd (omega (arith, ap (λ (k : ℕ). get_or s k 0) same))

-- the high bit of each of n bytes
abbrev mask : ℕ → ℕ
mask zero = 0
mask (suc n) = 128 * 2 ^ (8 * n) + mask n

mask_lt : (n : ℕ) → mask n < 2 ^ (8 * n)
mask_lt zero = lit< tt
mask_lt (suc n) =
    rw (mul-suc 8 n, add_comm (8 * n) 8, pow-add 2 8 (8 * n))
    (digits_lt {q = 128} {m = 2 ^ 8} {c = 2 ^ (8 * n)} (lit< tt) (mask_lt n))

no_part : (x p : ℕ) → 0 < p → x * p ≡ 0 → x ≡ 0
no_part zero p h e = refl
no_part (suc x) p h e = absurd (omega (arith, suc-mul x p))

low_byte : (x : ℕ) → x < 256 → bit_and x 128 ≡ 0 → x ≤ 127
low_byte x h e = by (leb x 127) refl
  where
    by : (t : Bool) → leb x 127 ≡ t → x ≤ 127
    by true q = leb-true x 127 q
    by false q =
        let one : x / 128 ≡ 1 = omega (arith, leb-false x 127 q) in
        let z : ◌≡◌ {A = ℕ} 0 1 = sym (ap (λ (y : ℕ). y / 128) e) ∙ and_shr x 128 7 ∙ ap (λ (y : ℕ). bit_and y 1) one in
        absurd (omega arith)

or-le : (x y : ℕ) → (x ≤ bit_or x y) × (y ≤ bit_or x y)
or-le x y = (omega (arith, or_add_and x y, and_le_r x y), omega (arith, or_add_and x y, and_le_l x y))

module _ (s : List ℕ) (i j : ℕ) (hb : Bytes s) where
  split : (n : ℕ) → bit_and (bit_or (word_at s i (suc n)) (word_at s j (suc n))) (mask (suc n))
      ≡ bit_and (bit_or (get_or s (i + n) 0) (get_or s (j + n) 0)) 128 * 2 ^ (8 * n) + bit_and (bit_or (word_at s i n) (word_at s j n)) (mask n)
  unfolding word_at
  split n =
      rw (or_block (8 * n) (get_or s (i + n) 0) (get_or s (j + n) 0) (word_at s i n) (word_at s j n) (word_lt s i n hb) (word_lt s j n hb))
      (and_block (8 * n) (bit_or (get_or s (i + n) 0) (get_or s (j + n) 0)) 128 (bit_or (word_at s i n) (word_at s j n)) (mask n)
      (or_lt (8 * n) (word_at s i n) (word_at s j n) (word_lt s i n hb) (word_lt s j n hb)) (mask_lt n))

  -- where no high bit is set in either word, each byte is ASCII
  pub both-ascii : (n : ℕ) → bit_and (bit_or (word_at s i n) (word_at s j n)) (mask n) ≡ 0 → (k : ℕ) → k < n → (get_or s (i + k) 0 ≤ 127) × (get_or s (j + k) 0 ≤ 127)
  both-ascii zero e k h = absurd (omega arith)
  both-ascii (suc n) e k h = below_more (λ (q : ℕ). (get_or s (i + q) 0 ≤ 127) × (get_or s (j + q) 0 ≤ 127)) n (both-ascii n (omega (arith, split n)))
      here k (omega arith)
    where
      or-here : bit_or (get_or s (i + n) 0) (get_or s (j + n) 0) ≤ 127
      or-here =
          low_byte (bit_or (get_or s (i + n) 0) (get_or s (j + n) 0)) (or_lt 8 (get_or s (i + n) 0) (get_or s (j + n) 0) (hb (i + n)) (hb (j + n)))
          (no_part (bit_and (bit_or (get_or s (i + n) 0) (get_or s (j + n) 0)) 128) (2 ^ (8 * n)) (pow_pos (8 * n)) (omega (arith, split n)))

      here : (get_or s (i + n) 0 ≤ 127) × (get_or s (j + n) 0 ≤ 127)
      here = (omega (arith, or-here, or-le (get_or s (i + n) 0) (get_or s (j + n) 0)), omega (arith, or-here, or-le (get_or s (i + n) 0) (get_or s (j + n) 0)))

-- sixteen bytes by two words
pub sixteen : (s : List ℕ) (i x y : ℕ) → Bytes s → i + 16 ≤ length s → x ≡ word_at s i 8 → y ≡ word_at s (i + 8) 8 → bit_and (bit_or x y) 9259542123273814144 ≡ 0
    → walk (drop i s) ≡ 16 + walk (drop (i + 16) s)
sixteen s i x y hb h ex ey e =
    let both = both-ascii s i (i + 8) hb 8 (rw (← ex, ← ey) e) in
    let at : i + 8 + 8 ≡ i + 16 = omega arith in
    ascii_run s i 8 (omega arith) (λ k l. (both k l).0)
    ∙ rw (ascii_run s (i + 8) 8 (omega arith) (λ k l. (both k l).1), at) (omega arith)
