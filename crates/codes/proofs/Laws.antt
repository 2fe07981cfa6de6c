-- The recogniser step by step, as the code takes it. Assumes nothing.
use mathlib.Core.Path.{◌≡◌, refl, sym, ap, subst, ◌∙◌}
use mathlib.Core.Logic.{inl, inr, by_cases}
use mathlib.Core.Bool.{Bool, true, false, true≢false, not, ◌&&◌, ◌||◌, xor}
use mathlib.Core.List.{List, [], ◌∷◌}
use Prim.Native.Nat.{ℕ, zero, suc, ◌+◌, ◌*◌, ◌-◌, ◌/◌, ◌%◌, ◌^◌, ◌≤◌, ◌<◌, min}
use native.Mathlib.Omega.{arith}
use native.Mathlib.Decide.{ℕ_discrete}
use borrow.Author.Tests.{leb-true, leb-false, le-leb, lt-leb, eqb-true, eqb-false, eq-eqb, ne_eqb}
use lib.Dec.{T, leb, eqb}
use types.Run.{OneOf, hit}
use mir.Val.{has_key}
use lib.ListN.{length, get_or, take, drop, length-take, drop_of_length-le}
use lib.Seq.{drop-cons, length-take-le, get_or-take}
use Rattle.basis.specs.Pick.{pick}
use Rattle.order.specs.Order.{same}
use Rattle.order.proofs.OrderLaws.{same-is, same-no}
use Rattle.codes.specs.Grammar.{is_letter, is_digit, number_after, months}
use Rattle.codes.specs.Recogniser.{is_hyphen, is_code_byte, may_stand, parted, leading, past_hyphen, is_digits, is_day, is_one_of, is_month, is_year, is_month_year, is_month_day, is_day_month, is_group, groups_follow, is_groups, conforms, is_date}
use Rattle.codes.specs.declared.Mark.TheVariants.{Other, Code, Date}
use Rattle.codes.specs.Marks.{mark_of}
use Rattle.codes.specs.MonthWords.{word_of, is_word_of, is_month_word}

pub both : (s t : Bool) → (s && t) ≡ true → (s ≡ true) × (t ≡ true)
both true t h = (refl, h)
both false t h = absurd (true≢false (sym h))

pub and_no : (t : Bool) → (t && false) ≡ false
and_no true = refl
and_no false = refl

-- ---- letters, digits and hyphens

same_bit : (s t : Bool) → not (xor s t) ≡ true → s ≡ t
unfolding xor
same_bit true true h = refl
same_bit true false h = absurd (true≢false (sym h))
same_bit false true h = absurd (true≢false (sym h))
same_bit false false h = refl

-- bit k of the code's number
abbrev code_bit : ℕ → Bool
code_bit k = eqb (0x3FFFFFF01FF9 / 2 ^ k % 2) 1

-- the first n bits are those of the bytes from the hyphen on
bits_agree : ℕ → Bool
bits_agree zero = true
bits_agree (suc n) = not (xor (code_bit n) (is_code_byte (n + 45))) && bits_agree n

bits-agree : bits_agree 46 ≡ true
unfolding bits_agree is_code_byte is_letter is_digit xor
bits-agree = refl

bit-agrees : (n : ℕ) → bits_agree n ≡ true → (k : ℕ) → k < n → code_bit k ≡ is_code_byte (k + 45)
unfolding bits_agree
bit-agrees zero h k l = absurd (omega arith)
bit-agrees (suc n) h k l =
    let f = both (not (xor (code_bit n) (is_code_byte (n + 45)))) (bits_agree n) h in
    by_cases (ℕ_discrete k n) (λ e. rw e (same_bit (code_bit n) (is_code_byte (n + 45)) f.0)) (λ d. bit-agrees n f.1 k (omega arith))

pub byte-bit : (b : ℕ) → 45 ≤ b → b ≤ 90 → code_bit (b - 45) ≡ is_code_byte b
byte-bit b h g = let e : b - 45 + 45 ≡ b = omega arith in bit-agrees 46 bits-agree (b - 45) (omega arith) ∙ ap is_code_byte e

pub byte_low : (b : ℕ) → b < 45 → false ≡ is_code_byte b
unfolding is_code_byte is_letter is_digit
byte_low b h = rw (ne_eqb b 45 (λ e. omega arith), lt-leb 65 b (omega arith), lt-leb 48 b (omega arith))

pub byte_high : (b : ℕ) → 90 < b → false ≡ is_code_byte b
unfolding is_code_byte is_letter is_digit
byte_high b h =
    rw (ne_eqb b 45 (λ e. omega arith), lt-leb b 90 (omega arith), lt-leb b 57 (omega arith), and_no (leb 65 b)) (sym (and_no (leb 48 b)))

module _ (s : List ℕ) (i : ℕ) where
  parted-step : (after : Bool) → i < length s → parted after (drop i s) ≡ (may_stand after (get_or s i 0) && parted (is_hyphen (get_or s i 0)) (drop (i + 1) s))
  unfolding parted
  parted-step after h = let f : i + 1 ≡ suc i = omega arith in rw (drop-cons s i 0 h, f)

  module _ (after : Bool) (h : i < length s) where
    pub parted-no : may_stand after (get_or s i 0) ≡ false → parted after (drop i s) ≡ parted true s → false ≡ parted true s
    parted-no e p = sym (parted-step after h ∙ ap (λ (t : Bool). t && parted (is_hyphen (get_or s i 0)) (drop (i + 1) s)) e) ∙ p

    pub parted-on : may_stand after (get_or s i 0) ≡ true → parted after (drop i s) ≡ parted true s
        → parted (is_hyphen (get_or s i 0)) (drop (i + 1) s) ≡ parted true s
    parted-on e p = sym (parted-step after h ∙ ap (λ (t : Bool). t && parted (is_hyphen (get_or s i 0)) (drop (i + 1) s)) e) ∙ p

  pub parted-end : (after : Bool) → length s ≤ i → parted after (drop i s) ≡ not after
  unfolding parted
  parted-end after h = rw (drop_of_length-le s h)

  -- ---- leading digits

  pub leading-more : i < length s → is_digit (get_or s i 0) ≡ true → leading (drop i s) ≡ suc (leading (drop (i + 1) s))
  unfolding leading
  leading-more h d = let f : i + 1 ≡ suc i = omega arith in rw (drop-cons s i 0 h, d, f)

  pub leading-stop : i < length s → is_digit (get_or s i 0) ≡ false → leading (drop i s) ≡ 0
  unfolding leading
  leading-stop h d = rw (drop-cons s i 0 h, d)

  pub leading_end : length s ≤ i → leading (drop i s) ≡ 0
  unfolding leading
  leading_end h = rw (drop_of_length-le s h)

-- ---- past a hyphen

pub past-none : (x : List ℕ) → length x ≡ 0 → x ≡ past_hyphen x
unfolding past_hyphen
past-none [] h = refl
past-none (b ∷ x) h = absurd (omega arith)

pub past_one : (x r : List ℕ) (b : ℕ) → x ≡ b ∷ r → b ≡ 45 → r ≡ past_hyphen x
unfolding past_hyphen
past_one x r b e h = rw (e, eq-eqb b 45 h)

pub past-other : (x r : List ℕ) (b : ℕ) → x ≡ b ∷ r → (b ≡ 45 → ⊥) → x ≡ past_hyphen x
unfolding past_hyphen
past-other x r b e h = rw (e, ne_eqb b 45 h)

-- ---- a day

pub digits-not : (lo hi : ℕ) (x : List ℕ) → (leading x ≡ length x → ⊥) → is_digits lo hi x ≡ false
unfolding is_digits
digits-not lo hi x h = rw (ne_eqb (leading x) (length x) h, and_no (leb (length x) hi)) (and_no (leb lo (length x)))

pub digits-few : (lo hi : ℕ) (x : List ℕ) → length x < lo → is_digits lo hi x ≡ false
unfolding is_digits
digits-few lo hi x h = rw (lt-leb lo (length x) h)

pub digits-many : (lo hi : ℕ) (x : List ℕ) → hi < length x → is_digits lo hi x ≡ false
unfolding is_digits
digits-many lo hi x h = rw (lt-leb (length x) hi h) (and_no (leb lo (length x)))

pub digits-yes : (lo hi : ℕ) (x : List ℕ) → lo ≤ length x → length x ≤ hi → leading x ≡ length x → is_digits lo hi x ≡ true
unfolding is_digits
digits-yes lo hi x a b e = rw (le-leb lo (length x) a, le-leb (length x) hi b, eq-eqb (leading x) (length x) e)

-- so many digits
digits_of : (n : ℕ) (x : List ℕ) → leading x ≡ length x → is_digits n n x ≡ eqb (length x) n
digits_of n x e = go (eqb (length x) n) (leb n (length x)) refl refl
  where
    go : (t u : Bool) → eqb (length x) n ≡ t → leb n (length x) ≡ u → is_digits n n x ≡ t
    go true u p q = let m = eqb-true (length x) n p in digits-yes n n x (omega arith) (omega arith) e
    go false true p q = let m = eqb-false (length x) n p in let l = leb-true n (length x) q in digits-many n n x (omega arith)
    go false false p q = digits-few n n x (leb-false n (length x) q)

pub leading_low : (x : List ℕ) → leading x ≤ length x
unfolding leading
leading_low [] = omega arith
leading_low (b ∷ x) = go (is_digit b) (leading_low x)
  where
    go : (t : Bool) → leading x ≤ length x → pick t (suc (leading x)) 0 ≤ suc (length x)
    go true h = omega arith
    go false h = omega arith

-- the digits that a text begins with are digits alone
pub front-digits : (x : List ℕ) → leading (take (leading x) x) ≡ length (take (leading x) x)
unfolding leading
front-digits [] = refl
front-digits (b ∷ x) = go (is_digit b) refl (front-digits x)
  where
    go : (t : Bool) → is_digit b ≡ t → leading (take (leading x) x) ≡ length (take (leading x) x)
        → leading (take (pick t (suc (leading x)) 0) (b ∷ x)) ≡ length (take (pick t (suc (leading x)) 0) (b ∷ x))
    go true e h = rw e (ap suc h)
    go false e h = refl

-- where all are digits, the first is one and the others are all digits
pub leading-all : (b : ℕ) (x : List ℕ) → leading (b ∷ x) ≡ suc (length x) → (is_digit b ≡ true) × (leading x ≡ length x)
unfolding leading
leading-all b x = go (is_digit b)
  where
    go : (t : Bool) → pick t (suc (leading x)) 0 ≡ suc (length x) → (t ≡ true) × (leading x ≡ length x)
    go true h = (refl, omega arith)
    go false h = absurd (omega arith)

pub digit_low : (b : ℕ) → is_digit b ≡ true → (48 ≤ b) × (b ≤ 57)
unfolding is_digit
digit_low b = go (leb 48 b) refl
  where
    go : (t : Bool) → leb 48 b ≡ t → (t && leb b 57) ≡ true → (48 ≤ b) × (b ≤ 57)
    go true e h = (leb-true 48 b e, leb-true b 57 h)
    go false e h = absurd (true≢false (sym h))

pub day-not : (x : List ℕ) → (leading x ≡ length x → ⊥) → false ≡ is_day x
unfolding is_day
day-not x h = rw (digits-not 1 2 x h)

pub day-none : (x : List ℕ) → (length x ≡ 1 → ⊥) → (length x ≡ 2 → ⊥) → false ≡ is_day x
unfolding is_day
day-none [] h g = rw (digits-few 1 2 [] (omega arith))
day-none (a ∷ x) h g = rw (digits-many 1 2 (a ∷ x) (omega arith))

one-digit : (a : ℕ) → 48 ≤ a → a ≤ 57 → not (eqb a 48) ≡ (leb 1 (10 * 0 + (a - 48)) && leb (10 * 0 + (a - 48)) 31)
one-digit a h g = go (eqb a 48) refl
  where
    n : ℕ
    n = 10 * 0 + (a - 48)

    go : (t : Bool) → eqb a 48 ≡ t → not t ≡ (leb 1 n && leb n 31)
    go true e = let z = eqb-true a 48 e in rw (lt-leb 1 n (omega arith))
    go false e = let z = eqb-false a 48 e in rw (le-leb 1 n (omega arith), le-leb n 31 (omega arith))

pub day-one : (x : List ℕ) → leading x ≡ length x → length x ≡ 1 → not (eqb (get_or x 0 0) 48) ≡ is_day x
unfolding is_day number_after
day-one [] e h = absurd (omega arith)
day-one (a ∷ b ∷ x) e h = absurd (omega arith)
day-one (a ∷ []) e h = let d = digit_low a (leading-all a [] e).0 in rw (digits-yes 1 2 (a ∷ []) (omega arith) (omega arith) e) (one-digit a d.0 d.1)

pub day-two : (x : List ℕ) → leading x ≡ length x → length x ≡ 2 → (48 ≤ get_or x 0 0) × (48 ≤ get_or x 1 0)
day-two [] e h = absurd (omega arith)
day-two (a ∷ []) e h = absurd (omega arith)
day-two (a ∷ b ∷ c ∷ x) e h = absurd (omega arith)
day-two (a ∷ b ∷ []) e h =
    let p = leading-all a (b ∷ []) e in
    let q = leading-all b [] p.1 in
    ((digit_low a p.0).0, (digit_low b q.0).0)

day-pair : (x : List ℕ) → leading x ≡ length x → length x ≡ 2
    → is_day x ≡ (leb 1 (number_after 0 (get_or x 0 0 ∷ get_or x 1 0 ∷ [])) && leb (number_after 0 (get_or x 0 0 ∷ get_or x 1 0 ∷ [])) 31)
unfolding is_day
day-pair [] e h = absurd (omega arith)
day-pair (a ∷ []) e h = absurd (omega arith)
day-pair (a ∷ b ∷ c ∷ x) e h = absurd (omega arith)
day-pair (a ∷ b ∷ []) e h = rw (digits-yes 1 2 (a ∷ b ∷ []) (omega arith) (omega arith) e)

module _ (x : List ℕ) (e : leading x ≡ length x) (h : length x ≡ 2) (n : ℕ) (m : n ≡ number_after 0 (get_or x 0 0 ∷ get_or x 1 0 ∷ [])) where
  pub day-zero : n ≡ 0 → false ≡ is_day x
  day-zero z = rw (day-pair x e h, ← m, lt-leb 1 n (omega arith))

  pub day-some : (n ≡ 0 → ⊥) → leb n 31 ≡ is_day x
  day-some z = rw (day-pair x e h, ← m, le-leb 1 n (omega arith))

-- the same of the digits that a text begins with
module _ (x : List ℕ) (d : ℕ) (l : d ≡ leading x) (h : d ≤ length x) where
  front-all : leading (take d x) ≡ length (take d x)
  front-all = rw l (front-digits x)

  front_long : length (take d x) ≡ d
  front_long = length-take-le d x h

  pub front-none : (d ≡ 1 → ⊥) → (d ≡ 2 → ⊥) → false ≡ is_day (take d x)
  front-none p q = day-none (take d x) (λ e. p (sym front_long ∙ e)) (λ e. q (sym front_long ∙ e))

  pub front-one : d ≡ 1 → not (eqb (get_or x 0 0) 48) ≡ is_day (take d x)
  front-one e = ap (λ (b : ℕ). not (eqb b 48)) (sym (get_or-take d x 0 0 (omega arith))) ∙ day-one (take d x) front-all (front_long ∙ e)

  module _ (e : d ≡ 2) where
    first : get_or (take d x) 0 0 ≡ get_or x 0 0
    first = get_or-take d x 0 0 (omega arith)

    second : get_or (take d x) 1 0 ≡ get_or x 1 0
    second = get_or-take d x 1 0 (omega arith)

    pub front-two : (48 ≤ get_or x 0 0) × (48 ≤ get_or x 1 0)
    front-two = rw (first, second) at (day-two (take d x) front-all (front_long ∙ e))

    module _ (n : ℕ) (m : n ≡ number_after 0 (get_or x 0 0 ∷ get_or x 1 0 ∷ [])) where
      said : n ≡ number_after 0 (get_or (take d x) 0 0 ∷ get_or (take d x) 1 0 ∷ [])
      said = rw (first, second) m

      pub front-zero : n ≡ 0 → false ≡ is_day (take d x)
      front-zero = day-zero (take d x) front-all (front_long ∙ e) n said

      pub front-some : (n ≡ 0 → ⊥) → leb n 31 ≡ is_day (take d x)
      front-some = day-some (take d x) front-all (front_long ∙ e) n said

-- ---- a month

is_three : List ℕ → Bool
is_three [] = false
is_three (p ∷ []) = false
is_three (p ∷ q ∷ []) = false
is_three (p ∷ q ∷ r ∷ []) = leb p 255 && (leb q 255 && leb r 255)
is_three (p ∷ q ∷ r ∷ s ∷ x) = false

threes : List (List ℕ) → Bool
threes [] = true
threes (t ∷ ts) = is_three t && threes ts

months-three : threes months ≡ true
unfolding threes is_three
months-three = refl

module _ (a b c : ℕ) (ha : a < 256) (hb : b < 256) (hc : c < 256) where
  same_word : (t : List ℕ) → is_three t ≡ true → same (a ∷ b ∷ c ∷ []) t ≡ eqb (word_of (a ∷ b ∷ c ∷ [])) (word_of t)
  unfolding is_three
  same_word [] h = absurd (true≢false (sym h))
  same_word (p ∷ []) h = absurd (true≢false (sym h))
  same_word (p ∷ q ∷ []) h = absurd (true≢false (sym h))
  same_word (p ∷ q ∷ r ∷ s ∷ x) h = absurd (true≢false (sym h))
  same_word (p ∷ q ∷ r ∷ []) h =
      let f = both (leb p 255) (leb q 255 && leb r 255) h in
      let g = both (leb q 255) (leb r 255) f.1 in
      let hp = leb-true p 255 f.0 in
      let hq = leb-true q 255 g.0 in
      let hr = leb-true r 255 g.1 in
      let x = a ∷ b ∷ c ∷ [] in
      let y = p ∷ q ∷ r ∷ [] in
      sym (same-is x y (eqb (word_of x) (word_of y))
      (λ e. let m = eqb-true (word_of x) (word_of y) e in
      let u : a ≡ p = omega arith in
      let v : b ≡ q = omega arith in
      let w : c ≡ r = omega arith in
      λ i. u i ∷ v i ∷ w i ∷ [])
      (λ e. eq-eqb (word_of x) (word_of y) (ap word_of e)))

  words-agree : (ts : List (List ℕ)) → threes ts ≡ true → is_one_of ts (a ∷ b ∷ c ∷ []) ≡ is_word_of ts (word_of (a ∷ b ∷ c ∷ []))
  unfolding threes is_one_of is_word_of
  words-agree [] h = refl
  words-agree (t ∷ ts) h = let f = both (is_three t) (threes ts) h in λ i. same_word t f.0 i || words-agree ts f.1 i

  pub month-word : is_month (a ∷ b ∷ c ∷ []) ≡ is_month_word (word_of (a ∷ b ∷ c ∷ []))
  unfolding is_month is_month_word
  month-word = words-agree months months-three

-- a month has three bytes
three-long : (t : List ℕ) → is_three t ≡ true → length t ≡ 3
unfolding is_three
three-long [] h = absurd (true≢false (sym h))
three-long (p ∷ []) h = absurd (true≢false (sym h))
three-long (p ∷ q ∷ []) h = absurd (true≢false (sym h))
three-long (p ∷ q ∷ r ∷ []) h = refl
three-long (p ∷ q ∷ r ∷ s ∷ x) h = absurd (true≢false (sym h))

none_of : (ts : List (List ℕ)) (x : List ℕ) → threes ts ≡ true → (length x ≡ 3 → ⊥) → is_one_of ts x ≡ false
unfolding threes is_one_of
none_of [] x h n = refl
none_of (t ∷ ts) x h n =
    let f = both (is_three t) (threes ts) h in
    rw (same-no x t (λ e. n (ap length e ∙ three-long t f.0))) (none_of ts x f.1 n)

pub month-long : (x : List ℕ) → (length x ≡ 3 → ⊥) → is_month x ≡ false
unfolding is_month
month-long x n = none_of months x months-three n

pub month-is : (x : List ℕ) → length x ≡ 3 → is_month (get_or x 0 0 ∷ get_or x 1 0 ∷ get_or x 2 0 ∷ []) ≡ is_month x
month-is [] h = absurd (omega arith)
month-is (a ∷ []) h = absurd (omega arith)
month-is (a ∷ b ∷ []) h = absurd (omega arith)
month-is (a ∷ b ∷ c ∷ d ∷ x) h = absurd (omega arith)
month-is (a ∷ b ∷ c ∷ []) h = refl

-- ---- what follows a month

pub year-none : (x : List ℕ) → length x ≡ 0 → true ≡ is_year x
unfolding is_year
year-none [] h = refl
year-none (b ∷ x) h = absurd (omega arith)

module _ (x r : List ℕ) (b : ℕ) (e : x ≡ b ∷ r) where
  pub year-other : (b ≡ 45 → ⊥) → false ≡ is_year x
  unfolding is_year
  year-other h = rw (e, ne_eqb b 45 h)

  module _ (h : b ≡ 45) (d : ℕ) (l : d ≡ leading r) where
    year-is : is_year x ≡ (is_digits 2 2 r || is_digits 4 4 r)
    unfolding is_year
    year-is = rw (e, eq-eqb b 45 h)

    pub year-not : (d ≡ length r → ⊥) → false ≡ is_year x
    year-not n = let g : leading r ≡ length r → ⊥ = λ q. n (l ∙ q) in rw (year-is, digits-not 2 2 r g, digits-not 4 4 r g)

    pub year-two : d ≡ length r → d ≡ 2 → true ≡ is_year x
    year-two n t = rw (year-is, digits-yes 2 2 r (omega arith) (omega arith) (omega arith))

    pub year-four : d ≡ length r → (d ≡ 2 → ⊥) → eqb d 4 ≡ is_year x
    year-four n t = let g : leading r ≡ length r = sym l ∙ n in rw (year-is, digits_of 2 r g, digits_of 4 r g, ← n, ne_eqb d 2 t)

-- ---- groups

pub follow-end : (n : ℕ) (x : List ℕ) → length x ≡ 0 → true ≡ groups_follow n x
unfolding groups_follow
follow-end zero [] h = refl
follow-end (suc n) [] h = refl
follow-end n (b ∷ x) h = absurd (omega arith)

pub follow-last : (x : List ℕ) → eqb (length x) 0 ≡ groups_follow 0 x
unfolding groups_follow
follow-last [] = refl
follow-last (b ∷ x) = ne_eqb (suc (length x)) 0 (λ e. omega arith)

module _ (x r : List ℕ) (b : ℕ) (e : x ≡ b ∷ r) where
  pub follow-other : (n : ℕ) → (b ≡ 45 → ⊥) → false ≡ groups_follow n x
  unfolding groups_follow
  follow-other zero h = rw e
  follow-other (suc n) h = rw (e, ne_eqb b 45 h)

  module _ (d : ℕ) (l : d ≡ leading r) where
    pub follow-no : (n : ℕ) → is_group d ≡ false → false ≡ groups_follow n x
    unfolding groups_follow
    follow-no zero g = rw e
    follow-no (suc n) g = rw (e, ← l, g) (sym (and_no (eqb b 45)))

    pub follow-on : (n : ℕ) → b ≡ 45 → is_group d ≡ true → groups_follow (suc n) x ≡ groups_follow n (drop d r)
    unfolding groups_follow
    follow-on n h g = rw (e, eq-eqb b 45 h, ← l, g)

-- ---- the three kinds of dates

module _ (x : List ℕ) where
  front-short : length x < 3 → is_month (take 3 x) ≡ false
  front-short h = let e : length (take 3 x) ≡ min 3 (length x) = length-take 3 x in month-long (take 3 x) (λ q. absurd (omega arith))

  pub month-year-short : length x < 3 → false ≡ is_month_year x
  unfolding is_month_year
  month-year-short h = rw (front-short h)

  pub month-year-no : is_month (take 3 x) ≡ false → false ≡ is_month_year x
  unfolding is_month_year
  month-year-no e = rw e

  pub month-year-yes : (t : Bool) → is_month (take 3 x) ≡ true → t ≡ is_year (drop 3 x) → t ≡ is_month_year x
  unfolding is_month_year
  month-year-yes t e y = rw e y

  pub month-day-short : length x < 3 → false ≡ is_month_day x
  unfolding is_month_day
  month-day-short h = rw (front-short h)

  pub month-day-no : is_month (take 3 x) ≡ false → false ≡ is_month_day x
  unfolding is_month_day
  month-day-no e = rw e

  pub month-day-yes : (t : Bool) → is_month (take 3 x) ≡ true → t ≡ is_day (past_hyphen (drop 3 x)) → t ≡ is_month_day x
  unfolding is_month_day
  month-day-yes t e y = rw e y

  module _ (d : ℕ) (l : d ≡ leading x) where
    pub day-month-no : is_day (take d x) ≡ false → false ≡ is_day_month x
    unfolding is_day_month
    day-month-no e = rw (← l, e)

    pub day-month-yes : (t : Bool) → is_day (take d x) ≡ true → t ≡ is_month_year (past_hyphen (drop d x)) → t ≡ is_day_month x
    unfolding is_day_month
    day-month-yes t e y = rw (← l, e) y

    pub groups-no : is_group d ≡ false → false ≡ is_groups x
    unfolding is_groups
    groups-no e = rw (← l, e)

    pub groups-one : length x ≤ d → false ≡ is_groups x
    unfolding is_groups
    groups-one h = rw (← l, le-leb (length x) d h) (sym (and_no (is_group d)))

    pub groups-more : (t : Bool) → is_group d ≡ true → d < length x → t ≡ groups_follow 2 (drop d x) → t ≡ is_groups x
    unfolding is_groups
    groups-more t e h f = rw (← l, e, lt-leb (length x) d h) f

    pub date-month : (t : Bool) → d ≡ 0 → t ≡ is_month_day x → t ≡ is_date x
    unfolding is_date
    date-month t z m = rw (← l, z) m

    pub date-day : (d ≡ 0 → ⊥) → is_day_month x ≡ true → true ≡ is_date x
    unfolding is_date
    date-day z e = rw (← l, ne_eqb d 0 z, e)

    pub date-groups : (t : Bool) → (d ≡ 0 → ⊥) → is_day_month x ≡ false → t ≡ is_groups x → t ≡ is_date x
    unfolding is_date
    date-groups t z e g = rw (← l, ne_eqb d 0 z, e) g

  -- ---- codes and marks

  pub code-short : length x < 4 → false ≡ conforms x
  unfolding conforms
  code-short h = rw (lt-leb 4 (length x) h)

  pub code-long : 24 < length x → false ≡ conforms x
  unfolding conforms
  code-long h = rw (lt-leb (length x) 24 h) (sym (and_no (leb 4 (length x))))

  pub code-parted : (t : Bool) → 4 ≤ length x → length x ≤ 24 → t ≡ parted true x → t ≡ conforms x
  unfolding conforms
  code-parted t h g e = rw (le-leb 4 (length x) h, le-leb (length x) 24 g) e

  pub mark-other : conforms x ≡ false → Other ≡ mark_of x
  unfolding mark_of
  mark-other e = rw e

  pub mark-date : conforms x ≡ true → is_date x ≡ true → Date ≡ mark_of x
  unfolding mark_of
  mark-date e d = rw (e, d)

  pub mark_code : conforms x ≡ true → is_date x ≡ false → Code ≡ mark_of x
  unfolding mark_of
  mark_code e d = rw (e, d)

-- ---- the months' numbers as the keys of a match

abbrev pub keys : List ℕ
keys =
    0x415052 ∷ 0x415547 ∷ 0x444543 ∷ 0x464542 ∷ 0x4A414E ∷ 0x4A554C
    ∷ 0x4A554E ∷ 0x4D4152 ∷ 0x4D4159 ∷ 0x4E4F56 ∷ 0x4F4354 ∷ 0x534550 ∷ []

all_words : List ℕ → Bool
all_words [] = true
all_words (k ∷ ks) = is_month_word k && all_words ks

keys-words : all_words keys ≡ true
unfolding all_words is_month_word is_word_of
keys-words = refl

word-keyed : (ks : List ℕ) → all_words ks ≡ true → (w : ℕ) → OneOf ks w → is_month_word w ≡ true
unfolding all_words
word-keyed [] h w o = absurd o
word-keyed (k ∷ []) h w o = ap is_month_word o ∙ (both (is_month_word k) true h).0
word-keyed (k ∷ l ∷ ks) h w (inl e) = ap is_month_word e ∙ (both (is_month_word k) (all_words (l ∷ ks)) h).0
word-keyed (k ∷ l ∷ ks) h w (inr o) = word-keyed (l ∷ ks) (both (is_month_word k) (all_words (l ∷ ks)) h).1 w o

pub word-yes : (w : ℕ) → OneOf keys w → true ≡ is_month_word w
word-yes w o = sym (word-keyed keys keys-words w o)

all_keyed : List (List ℕ) → Bool
all_keyed [] = true
all_keyed (t ∷ ts) = has_key keys (word_of t) && all_keyed ts

months-keyed : all_keyed months ≡ true
unfolding all_keyed
months-keyed = refl

word-other : (ts : List (List ℕ)) → all_keyed ts ≡ true → (w : ℕ) → (OneOf keys w → ⊥) → is_word_of ts w ≡ false
unfolding all_keyed is_word_of
word-other [] h w n = refl
word-other (t ∷ ts) h w n =
    let f = both (has_key keys (word_of t)) (all_keyed ts) h in
    let g : T (has_key keys (word_of t)) = subst T (sym f.0) tt in
    rw (ne_eqb w (word_of t) (λ e. n (subst (OneOf keys) (sym e) (hit keys (word_of t) g)))) (word-other ts f.1 w n)

pub word-no : (w : ℕ) → (OneOf keys w → ⊥) → false ≡ is_month_word w
unfolding is_month_word
word-no w n = sym (word-other months months-keyed w n)
