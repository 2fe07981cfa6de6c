-- Nine bytes of a text judged at once, eight lanes in a word: each lane is a letter, a digit or a hyphen, and no two hyphens stand together. Assumes nothing.
use mathlib.Core.Path.{◌≡◌, refl, sym, ap, ◌∙◌}
use mathlib.Core.Bool.{Bool, true, false, true≢false, not, ◌&&◌}
use mathlib.Core.List.{List}
use Prim.Native.Nat.{ℕ, zero, suc, ◌+◌, ◌^◌, ◌≤◌, ◌<◌}
use native.Mathlib.Omega.{arith}
use borrow.Author.Tests.{leb-true, leb-false, le-leb, eqb-true}
use borrow.Author.Count.{below_more}
use lib.Bits.{bit_and, bit_or, bit_xor, and_block, or_block, xor_block, and_lt, or_lt, xor_lt}
use lib.Dec.{leb, eqb, lit<}
use lib.ListN.{get_or}
use Rattle.words.specs.Words.{Bytes, word_at}
use Rattle.codes.specs.Grammar.{is_letter, is_digit}
use Rattle.codes.specs.Recogniser.{is_hyphen, is_code_byte}
use Rattle.codes.specs.Windows.{every, pair_ok, window_ok}
use Rattle.codes.proofs.Laws.{both, byte_high}
use Rattle.codes.proofs.Lanes.{lanes, Small, flag, word_lanes, by-lanes, sum-lanes, lanes-lt, lanes-same, lanes-apart, every-at, flags-every}

-- ---- one lane

-- has its high bit where a byte below 128 is from 128 - lo to 127 - hi
abbrev range_lane : ℕ → ℕ → ℕ → ℕ
range_lane lo hi b = bit_and (b + lo) (bit_xor (b + hi) 128)

-- has it not where such a byte is a hyphen
abbrev other_lane : ℕ → ℕ
other_lane b = bit_xor b 45 + 127

abbrev good_lane : ℕ → ℕ → ℕ
good_lane b next = bit_and (bit_and (bit_or (bit_or (range_lane 63 37 b) (range_lane 80 70 b)) (bit_xor (other_lane b) 128)) (bit_or (other_lane b) next)) 128

lanes_checked : ℕ → Bool
lanes_checked zero = true
lanes_checked (suc n) =
    (eqb (bit_and (other_lane n) 128) (flag (not (is_hyphen n)))
    && (eqb (good_lane n 128) (flag (is_code_byte n)) && eqb (good_lane n 0) (flag (is_code_byte n && not (is_hyphen n)))))
    && lanes_checked n

all-checked : lanes_checked 128 ≡ true
unfolding lanes_checked is_code_byte is_letter is_digit
all-checked = refl

record LaneIs (b : ℕ) : Type 0 where
  other : bit_and (other_lane b) 128 ≡ flag (not (is_hyphen b))
  alone : good_lane b 128 ≡ flag (is_code_byte b)
  before : good_lane b 0 ≡ flag (is_code_byte b && not (is_hyphen b))

lane_below : (n : ℕ) → lanes_checked n ≡ true → (b : ℕ) → b < n → LaneIs b
unfolding lanes_checked
lane_below zero h b l = absurd (omega arith)
lane_below (suc n) h b l =
    let f = both _ (lanes_checked n) h in
    let g = both _ _ f.0 in
    let k = both _ _ g.1 in
    below_more LaneIs n (lane_below n f.1) (record { other = eqb-true _ _ g.0; alone = eqb-true _ _ k.0; before = eqb-true _ _ k.1 }) b
    (omega arith)

lane-is : (b : ℕ) → b < 128 → LaneIs b
lane-is b h = lane_below 128 all-checked b h

with-true : (s t : Bool) → (s && not t) ≡ (s && not (t && true))
with-true s true = refl
with-true s false = refl

with-false : (s t : Bool) → s ≡ (s && not (t && false))
with-false true true = refl
with-false true false = refl
with-false false t = refl

lane-pair : (b c : ℕ) → b < 128 → good_lane b (flag (not (is_hyphen c))) ≡ flag (pair_ok b c)
lane-pair b c h = go (is_hyphen c)
  where
    go : (t : Bool) → good_lane b (flag (not t)) ≡ flag (is_code_byte b && not (is_hyphen b && t))
    go true = (lane-is b h).before ∙ ap flag (with-true (is_code_byte b) (is_hyphen b))
    go false = (lane-is b h).alone ∙ ap flag (with-false (is_code_byte b) (is_hyphen b))

high_checked : ℕ → Bool
high_checked zero = true
high_checked (suc n) = eqb (bit_and n 128) (flag (not (leb n 127))) && high_checked n

all-high : high_checked 256 ≡ true
unfolding high_checked
all-high = refl

high-below : (n : ℕ) → high_checked n ≡ true → (b : ℕ) → b < n → bit_and b 128 ≡ flag (not (leb b 127))
unfolding high_checked
high-below zero h b l = absurd (omega arith)
high-below (suc n) h b l =
    let f = both _ (high_checked n) h in
    below_more (λ (j : ℕ). bit_and j 128 ≡ flag (not (leb j 127))) n (high-below n f.1) (eqb-true _ _ f.0) b (omega arith)

-- ---- eight lanes

abbrev Low : (ℕ → ℕ) → Type 0
Low f = (j : ℕ) → j < 8 → f j < 128

ands : (f g : ℕ → ℕ) → Small f 8 → Small g 8 → bit_and (lanes f 8) (lanes g 8) ≡ lanes (λ j. bit_and (f j) (g j)) 8
ands f g = by-lanes bit_and refl and_block f g 8

ors : (f g : ℕ → ℕ) → Small f 8 → Small g 8 → bit_or (lanes f 8) (lanes g 8) ≡ lanes (λ j. bit_or (f j) (g j)) 8
ors f g = by-lanes bit_or refl or_block f g 8

xors : (f g : ℕ → ℕ) → Small f 8 → Small g 8 → bit_xor (lanes f 8) (lanes g 8) ≡ lanes (λ j. bit_xor (f j) (g j)) 8
xors f g = by-lanes bit_xor refl xor_block f g 8

-- eight times the same byte
abbrev pub all : ℕ → ℕ
all k = lanes (λ (j : ℕ). k) 8

all_small : (k : ℕ) → k < 256 → Small (λ (j : ℕ). k) 8
all_small k h j l = h

module _ (b : ℕ → ℕ) (h : Low b) where
  low_sum : (k : ℕ) → k ≤ 128 → Small (λ j. b j + k) 8
  low_sum k m j l = let n : b j + k < 256 = omega (arith, h j l) in n

  other-small : Small (λ j. other_lane (b j)) 8
  other-small j l = let n : bit_xor (b j) 45 < 128 = xor_lt 7 (b j) 45 (h j l) (lit< tt) in let m : other_lane (b j) < 256 = omega arith in m

  range_small : (lo hi : ℕ) → lo ≤ 128 → hi ≤ 128 → Small (λ j. range_lane lo hi (b j)) 8
  range_small lo hi m n j l = and_lt 8 (b j + lo) (bit_xor (b j + hi) 128) (low_sum lo m j l) (xor_lt 8 (b j + hi) 128 (low_sum hi n j l) (lit< tt))

  ranges : (lo hi : ℕ) → lo ≤ 128 → hi ≤ 128
      → bit_and (lanes b 8 + all lo) (bit_xor (lanes b 8 + all hi) (all 128)) ≡ lanes (λ j. range_lane lo hi (b j)) 8
  ranges lo hi m n =
      (λ i. bit_and (sum-lanes b (λ j. lo) 8 i) (bit_xor (sum-lanes b (λ j. hi) 8 i) (all 128)))
      ∙ (ap (bit_and (lanes (λ j. b j + lo) 8)) (xors (λ j. b j + hi) (λ j. 128) (low_sum hi n) (all_small 128 (lit< tt)))
      ∙ ands (λ j. b j + lo) (λ j. bit_xor (b j + hi) 128) (low_sum lo m) (λ j l. xor_lt 8 (b j + hi) 128 (low_sum hi n j l) (lit< tt)))

  others : bit_xor (lanes b 8) (all 45) + all 127 ≡ lanes (λ j. other_lane (b j)) 8
  others =
      ap (λ (w : ℕ). w + all 127) (xors b (λ j. 45) (λ j l. let n : b j < 256 = omega (arith, h j l) in n) (all_small 45 (lit< tt)))
      ∙ sum-lanes (λ j. bit_xor (b j) 45) (λ j. 127) 8

  nexts : bit_and (bit_xor (lanes b 8) (all 45) + all 127) (all 128) ≡ lanes (λ j. flag (not (is_hyphen (b j)))) 8
  nexts =
      ap (λ (w : ℕ). bit_and w (all 128)) others
      ∙ (ands (λ j. other_lane (b j)) (λ j. 128) other-small (all_small 128 (lit< tt))
      ∙ lanes-same (λ j. bit_and (other_lane (b j)) 128) (λ j. flag (not (is_hyphen (b j)))) 8 (λ j l. (lane-is (b j) (h j l)).other))

-- what the code makes of a word and of the word one byte on
abbrev pub good_word : ℕ → ℕ → ℕ
good_word w v =
    bit_and
    (bit_and
    (bit_or (bit_or (bit_and (w + all 63) (bit_xor (w + all 37) (all 128))) (bit_and (w + all 80) (bit_xor (w + all 70) (all 128))))
    (bit_xor (bit_xor w (all 45) + all 127) (all 128)))
    (bit_or (bit_xor w (all 45) + all 127) (bit_and (bit_xor v (all 45) + all 127) (all 128))))
    (all 128)

flag_small : (t : Bool) → flag t < 2 ^ 8
flag_small true = lit< tt
flag_small false = lit< tt

module _ (b c : ℕ → ℕ) (hb : Low b) (hc : Low c) where
  abbrev L : ℕ → ℕ
  L j = range_lane 63 37 (b j)

  abbrev D : ℕ → ℕ
  D j = range_lane 80 70 (b j)

  abbrev P : ℕ → ℕ
  P j = other_lane (b j)

  abbrev N : ℕ → ℕ
  N j = flag (not (is_hyphen (c j)))

  s128 : Small (λ (j : ℕ). 128) 8
  s128 = all_small 128 (lit< tt)

  s_l : Small L 8
  s_l = range_small b hb 63 37 (omega arith) (omega arith)

  s_d : Small D 8
  s_d = range_small b hb 80 70 (omega arith) (omega arith)

  s_n : Small N 8
  s_n j l = flag_small (not (is_hyphen (c j)))

  s2 : Small (λ j. bit_xor (P j) 128) 8
  s2 j l = xor_lt 8 (P j) 128 (other-small b hb j l) (lit< tt)

  s1 : Small (λ j. bit_or (L j) (D j)) 8
  s1 j l = or_lt 8 (L j) (D j) (s_l j l) (s_d j l)

  s3 : Small (λ j. bit_or (bit_or (L j) (D j)) (bit_xor (P j) 128)) 8
  s3 j l = or_lt 8 (bit_or (L j) (D j)) (bit_xor (P j) 128) (s1 j l) (s2 j l)

  s4 : Small (λ j. bit_or (P j) (N j)) 8
  s4 j l = or_lt 8 (P j) (N j) (other-small b hb j l) (s_n j l)

  s5 : Small (λ j. bit_and (bit_or (bit_or (L j) (D j)) (bit_xor (P j) 128)) (bit_or (P j) (N j))) 8
  s5 j l = and_lt 8 (bit_or (bit_or (L j) (D j)) (bit_xor (P j) 128)) (bit_or (P j) (N j)) (s3 j l) (s4 j l)

  goods : good_word (lanes b 8) (lanes c 8) ≡ lanes (λ j. flag (pair_ok (b j) (c j))) 8
  goods =
      let p = others b hb in
      (λ i. bit_and (bit_and (bit_or (bit_or (ranges b hb 63 37 (omega arith) (omega arith) i) (ranges b hb 80 70 (omega arith) (omega arith) i))
      (bit_xor (p i) (all 128))) (bit_or (p i) (nexts c hc i))) (all 128))
      ∙ ((λ i. bit_and (bit_and (bit_or (ors L D s_l s_d i) (xors P (λ j. 128) (other-small b hb) s128 i)) (ors P N (other-small b hb) s_n i)) (all 128))
      ∙ (ap (λ (w : ℕ). bit_and (bit_and w (lanes (λ j. bit_or (P j) (N j)) 8)) (all 128)) (ors (λ j. bit_or (L j) (D j)) (λ j. bit_xor (P j) 128) s1 s2)
      ∙ (ap (λ (w : ℕ). bit_and w (all 128)) (ands (λ j. bit_or (bit_or (L j) (D j)) (bit_xor (P j) 128)) (λ j. bit_or (P j) (N j)) s3 s4)
      ∙ (ands (λ j. bit_and (bit_or (bit_or (L j) (D j)) (bit_xor (P j) 128)) (bit_or (P j) (N j))) (λ j. 128) s5 s128
      ∙ lanes-same (λ j. good_lane (b j) (N j)) (λ j. flag (pair_ok (b j) (c j))) 8 (λ j l. lane-pair (b j) (c j) (hb j l))))))

-- ---- high bits

module _ (f : ℕ → ℕ) (h : Small f 8) where
  highs : bit_and (lanes f 8) (all 128) ≡ lanes (λ j. flag (not (leb (f j) 127))) 8
  highs =
      ands f (λ j. 128) h (all_small 128 (lit< tt))
      ∙ lanes-same (λ j. bit_and (f j) 128) (λ j. flag (not (leb (f j) 127))) 8 (λ j l. high-below 256 all-high (f j) (h j l))

  low_of : bit_and (lanes f 8) (all 128) ≡ 0 → Low f
  unfolding lanes
  low_of e j l =
      let z = lanes-apart (λ j. flag (not (leb (f j) 127))) (λ j. 0) 8 (λ j l. flag_small (not (leb (f j) 127))) (all_small 0 (lit< tt))
      (sym highs ∙ e) j l in
      go (leb (f j) 127) refl z
    where
      go : (t : Bool) → leb (f j) 127 ≡ t → flag (not t) ≡ 0 → f j < 128
      go true e z = let m = leb-true (f j) 127 e in omega arith
      go false e z = absurd (omega arith)

  of_low : Low f → bit_and (lanes f 8) (all 128) ≡ 0
  unfolding lanes
  of_low g =
      highs
      ∙ lanes-same (λ j. flag (not (leb (f j) 127))) (λ j. 0) 8 (λ j l. ap (λ (t : Bool). flag (not t)) (le-leb (f j) 127 (omega (arith, g j l))))

-- ---- nine bytes of a text

pub code-low : (b : ℕ) → is_code_byte b ≡ true → b < 128
code-low b h = go (leb b 90) refl
  where
    go : (t : Bool) → leb b 90 ≡ t → b < 128
    go true e = let m = leb-true b 90 e in omega arith
    go false e = absurd (true≢false (sym h ∙ sym (byte_high b (leb-false b 90 e))))

module _ (s : List ℕ) (i : ℕ) (hs : Bytes s) where
  abbrev b : ℕ → ℕ
  b j = get_or s (i + j) 0

  abbrev c : ℕ → ℕ
  c j = get_or s (i + 1 + j) 0

  sb : Small b 8
  sb j l = hs (i + j)

  sc : Small c 8
  sc j l = hs (i + 1 + j)

  module _ (h : window_ok s i ≡ true) where
    parts : (every (λ (j : ℕ). pair_ok (b j) (c j)) 8 ≡ true) × (leb (get_or s (i + 8) 0) 127 ≡ true)
    unfolding window_ok
    parts = both _ _ h

    pub window-pair : (j : ℕ) → j < 8 → pair_ok (b j) (c j) ≡ true
    window-pair j l = every-at (λ (j : ℕ). pair_ok (b j) (c j)) 8 parts.0 j l

    b-low : Low b
    b-low j l = code-low (b j) (both (is_code_byte (b j)) _ (window-pair j l)).0

    c-low : Low c
    c-low j l = go (leb j 6) refl
      where
        last : get_or s (i + 8) 0 < 128
        last = let m = leb-true (get_or s (i + 8) 0) 127 parts.1 in omega arith

        go : (t : Bool) → leb j 6 ≡ t → c j < 128
        go true e =
            let m = leb-true j 6 e in
            let k : i + 1 + j ≡ i + (j + 1) = omega arith in
            rw k (b-low (j + 1) (omega arith))
        go false e =
            let m = leb-false j 6 e in
            let k : i + 1 + j ≡ i + 8 = omega arith in
            rw k last

  pub window-high : (w : ℕ) → w ≡ word_at s i 8 → (bit_and w (all 128) ≡ 0 → ⊥) → false ≡ window_ok s i
  window-high w e n = go (window_ok s i) refl
    where
      go : (t : Bool) → window_ok s i ≡ t → false ≡ t
      go true h = absurd (n (ap (λ (x : ℕ). bit_and x (all 128)) (e ∙ word_lanes s i 8) ∙ of_low b sb (b-low h)))
      go false h = refl

  pub window-high-next : (v : ℕ) → v ≡ word_at s (i + 1) 8 → (bit_and v (all 128) ≡ 0 → ⊥) → false ≡ window_ok s i
  window-high-next v e n = go (window_ok s i) refl
    where
      go : (t : Bool) → window_ok s i ≡ t → false ≡ t
      go true h = absurd (n (ap (λ (x : ℕ). bit_and x (all 128)) (e ∙ word_lanes s (i + 1) 8) ∙ of_low c sc (c-low h)))
      go false h = refl

  module _ (w v : ℕ) (ew : w ≡ word_at s i 8) (ev : v ≡ word_at s (i + 1) 8) (zw : bit_and w (all 128) ≡ 0) (zv : bit_and v (all 128) ≡ 0) where
    lw : w ≡ lanes b 8
    lw = ew ∙ word_lanes s i 8

    lv : v ≡ lanes c 8
    lv = ev ∙ word_lanes s (i + 1) 8

    low-b : Low b
    low-b = low_of b sb (ap (λ (x : ℕ). bit_and x (all 128)) (sym lw) ∙ zw)

    low-c : Low c
    low-c = low_of c sc (ap (λ (x : ℕ). bit_and x (all 128)) (sym lv) ∙ zv)

    pub window-is : eqb (good_word w v) (all 128) ≡ window_ok s i
    unfolding window_ok
    window-is =
        let k : i + 1 + 7 ≡ i + 8 = omega arith in
        let n : get_or s (i + 8) 0 < 128 = rw k at (low-c 7 (omega arith)) in
        ap (λ (x : ℕ). eqb x (all 128)) ((λ j. good_word (lw j) (lv j)) ∙ goods b c low-b low-c)
        ∙ (flags-every (λ j. pair_ok (b j) (c j)) 8
        ∙ rw (le-leb (get_or s (i + 8) 0) 127 (omega arith)) (and_yes (every (λ (j : ℕ). pair_ok (b j) (c j)) 8)))
      where
        and_yes : (t : Bool) → t ≡ (t && true)
        and_yes true = refl
        and_yes false = refl

    -- no sum passes 64 bits
    pub sum_fits : (k : ℕ) → k ≤ 128 → w + all k < 18446744073709551616
    sum_fits k m =
        let e : w + all k ≡ lanes (λ j. b j + k) 8 = ap (λ (x : ℕ). x + all k) lw ∙ sum-lanes b (λ j. k) 8 in
        let l : lanes (λ j. b j + k) 8 < 18446744073709551616 = lanes-lt (λ j. b j + k) 8 (low_sum b low-b k m) in
        omega arith

    others-fit : (f : ℕ → ℕ) → Low f → bit_xor (lanes f 8) (all 45) + all 127 < 18446744073709551616
    others-fit f g =
        let l : lanes (λ j. other_lane (f j)) 8 < 18446744073709551616 = lanes-lt (λ j. other_lane (f j)) 8 (other-small f g) in
        omega (arith, others f g)

    pub other_fits : bit_xor w (all 45) + all 127 < 18446744073709551616
    other_fits = rw lw (others-fit b low-b)

    pub next_fits : bit_xor v (all 45) + all 127 < 18446744073709551616
    next_fits = rw lv (others-fit c low-c)
