-- A text is taken for a date exactly where the grammar gives it as one. Assumes nothing.
use mathlib.Core.Path.{◌≡◌, refl, sym, ap, subst, ◌∙◌}
use mathlib.Core.Logic.{◌⊎◌, inl, inr}
use mathlib.Core.Bool.{Bool, true, false, true≢false, not, ◌&&◌, ◌||◌}
use mathlib.Core.List.{List, [], ◌∷◌, ◌++◌}
use Prim.Native.Nat.{ℕ, zero, suc, ◌<◌}
use native.Mathlib.Omega.{arith}
use borrow.Author.Tests.{leb-true, leb-false, le-leb, lt-leb, eqb-true, eq-eqb, ne_eqb, not-true}
use lib.Dec.{leb, eqb}
use lib.ListN.{length, get_or, take, drop, length-append, length-drop, take-append-drop}
use lib.Seq.{take_at, drop_at, take_all, drop-length, length-take-le}
use Rattle.basis.specs.Pick.{pick}
use Rattle.order.specs.Order.{same}
use Rattle.order.proofs.OrderLaws.{same-yes, same_true}
use Rattle.codes.specs.Grammar.{is_letter, is_digit, Texts, ◌then◌, optional, Digits, Day, number_after, hyphen, months, OneOf, month, two_or_four_digits, group, date}
use Rattle.codes.specs.Recogniser.{is_hyphen, leading, after_digits, past_hyphen, is_digits, is_day, is_one_of, is_month, is_year, is_month_year, is_day_month, is_month_day, is_group, groups_follow, is_groups, is_date}
use Rattle.codes.proofs.Laws.{both, front-digits, digits-yes, leading-all, leading_low, digit_low}
use Rattle.codes.proofs.CodeExactly.{either, or_yes}

-- ---- digits

digits-all : (x : List ℕ) → leading x ≡ length x → (i : ℕ) → i < length x → is_digit (get_or x i 0) ≡ true
digits-all [] e i l = absurd (omega arith)
digits-all (b ∷ x) e zero l = (leading-all b x e).0
digits-all (b ∷ x) e (suc i) l = digits-all x (leading-all b x e).1 i (omega arith)

all_digits : (x : List ℕ) → ((i : ℕ) → i < length x → is_digit (get_or x i 0) ≡ true) → leading x ≡ length x
unfolding leading
all_digits [] f = refl
all_digits (b ∷ x) f = rw (f 0 (omega arith)) (ap suc (all_digits x (λ i l. f (suc i) (omega arith))))

module _ (lo hi : ℕ) (x : List ℕ) where
  is-digits : is_digits lo hi x ≡ true → Digits lo hi x
  unfolding is_digits
  is-digits h =
      let f = both (leb lo (length x)) (leb (length x) hi && eqb (leading x) (length x)) h in
      let g = both (leb (length x) hi) (eqb (leading x) (length x)) f.1 in
      record { least = leb-true lo (length x) f.0; most = leb-true (length x) hi g.0; all = digits-all x (eqb-true (leading x) (length x) g.1) }

  digits-is : Digits lo hi x → is_digits lo hi x ≡ true
  digits-is d = digits-yes lo hi x d.least d.most (all_digits x d.all)

-- digits, and then no digit
front-leads : (u v : List ℕ) → leading u ≡ length u → leading v ≡ 0 → leading (u ++ v) ≡ length u
unfolding leading
front-leads [] v e z = z
front-leads (b ∷ u) v e z = let f = leading-all b u e in rw f.0 (ap suc (front-leads u v f.1 z))

-- ---- a day

module _ (x : List ℕ) where
  is-day : is_day x ≡ true → Day x
  unfolding is_day
  is-day h =
      let f = both (is_digits 1 2 x) (leb 1 (number_after 0 x) && leb (number_after 0 x) 31) h in
      let g = both (leb 1 (number_after 0 x)) (leb (number_after 0 x) 31) f.1 in
      record { digits = is-digits 1 2 x f.0; least = leb-true 1 (number_after 0 x) g.0; most = leb-true (number_after 0 x) 31 g.1 }

  day-is : Day x → is_day x ≡ true
  unfolding is_day
  day-is d = rw (digits-is 1 2 x d.digits, le-leb 1 (number_after 0 x) d.least, le-leb (number_after 0 x) 31 d.most)

-- ---- a month

is-one-of : (ts : List (List ℕ)) (x : List ℕ) → is_one_of ts x ≡ true → OneOf ts x
unfolding is_one_of
is-one-of [] x h = absurd (true≢false (sym h))
is-one-of (t ∷ ts) x h = go (either (same x t) (is_one_of ts x) h) (is-one-of ts x)
  where
    go : (same x t ≡ true) ⊎ (is_one_of ts x ≡ true) → (is_one_of ts x ≡ true → OneOf ts x) → OneOf (t ∷ ts) x
    go (inl e) f = record { which = 0; low = omega arith; is = same_true x t e }
    go (inr e) f = let r = f e in let l = r.low in record { which = suc r.which; low = omega arith; is = r.is }

one-of-is : (ts : List (List ℕ)) (x : List ℕ) (k : ℕ) → k < length ts → x ≡ get_or ts k [] → is_one_of ts x ≡ true
unfolding is_one_of
one-of-is [] x k l e = absurd (omega arith)
one-of-is (t ∷ ts) x zero l e = rw (same-yes x t e)
one-of-is (t ∷ ts) x (suc k) l e = rw (one-of-is ts x k (omega arith) e) (or_yes (same x t))

module _ (x : List ℕ) where
  is-month : is_month x ≡ true → month x
  unfolding is_month
  is-month h = is-one-of months x h

  month-is : month x → is_month x ≡ true
  unfolding is_month
  month-is m = one-of-is months x m.which m.low m.is

-- three bytes, the first a letter
named : List ℕ → Bool
named [] = false
named (p ∷ []) = false
named (p ∷ q ∷ []) = false
named (p ∷ q ∷ r ∷ []) = is_letter p
named (p ∷ q ∷ r ∷ s ∷ x) = false

all_named : List (List ℕ) → Bool
all_named [] = true
all_named (t ∷ ts) = named t && all_named ts

months-named : all_named months ≡ true
unfolding all_named named is_letter
months-named = refl

named-at : (ts : List (List ℕ)) → all_named ts ≡ true → (k : ℕ) → k < length ts → named (get_or ts k []) ≡ true
unfolding all_named
named-at [] h k l = absurd (omega arith)
named-at (t ∷ ts) h zero l = (both (named t) (all_named ts) h).0
named-at (t ∷ ts) h (suc k) l = named-at ts (both (named t) (all_named ts) h).1 k (omega arith)

month-named : (x : List ℕ) → month x → named x ≡ true
month-named x m = ap named m.is ∙ named-at months months-named m.which m.low

letter-no : (b : ℕ) → is_letter b ≡ true → (is_digit b ≡ false) × (is_hyphen b ≡ false)
unfolding is_letter is_digit
letter-no b h =
    let f = both (leb 65 b) (leb b 90) h in
    let l = leb-true 65 b f.0 in
    (rw (lt-leb b 57 (omega arith)) (and_no (leb 48 b)), ne_eqb b 45 (λ e. omega arith))
  where
    and_no : (t : Bool) → (t && false) ≡ false
    and_no true = refl
    and_no false = refl

-- a text that begins with a month begins with no digit and no hyphen
record Led (m y : List ℕ) : Type 0 where
  long : length m ≡ 3
  undigit : leading (m ++ y) ≡ 0
  unhyphen : past_hyphen (m ++ y) ≡ m ++ y

named-led : (m y : List ℕ) → named m ≡ true → Led m y
unfolding named leading past_hyphen
named-led [] y h = absurd (true≢false (sym h))
named-led (p ∷ []) y h = absurd (true≢false (sym h))
named-led (p ∷ q ∷ []) y h = absurd (true≢false (sym h))
named-led (p ∷ q ∷ r ∷ s ∷ x) y h = absurd (true≢false (sym h))
named-led (p ∷ q ∷ r ∷ []) y h = let l = letter-no p h in record { long = refl; undigit = rw l.0; unhyphen = rw l.1 }

-- ---- an optional hyphen before what begins with none

past-joined : (a : Texts) (y : List ℕ) → a (past_hyphen y) → (optional hyphen then a) y
unfolding past_hyphen
past-joined a [] h = record { front = []; back = []; whole = refl; one = inl refl; other = h }
past-joined a (b ∷ z) h = go (is_hyphen b) refl h
  where
    go : (t : Bool) → is_hyphen b ≡ t → a (pick t z (b ∷ z)) → (optional hyphen then a) (b ∷ z)
    go true e h = record { front = b ∷ []; back = z; whole = refl; one = inr (ap (λ (c : ℕ). c ∷ []) (eqb-true b 45 e)); other = h }
    go false e h = record { front = []; back = b ∷ z; whole = refl; one = inl refl; other = h }

-- the text after the hyphen, and that no digit stands before it
joined-past : (a : Texts) (y : List ℕ) → ((z : List ℕ) → a z → past_hyphen z ≡ z) → (optional hyphen then a) y → a (past_hyphen y)
unfolding past_hyphen
joined-past a y f j = go j.one
  where
    go : optional hyphen j.front → a (past_hyphen y)
    go (inl e) = let w : y ≡ j.back = j.whole ∙ ap (λ (u : List ℕ). u ++ j.back) e in subst a (sym (ap past_hyphen w ∙ f j.back j.other)) j.other
    go (inr e) = let w : y ≡ 45 ∷ j.back = j.whole ∙ ap (λ (u : List ℕ). u ++ j.back) e in subst a (sym (ap past_hyphen w)) j.other

joined-undigit : (a : Texts) (y : List ℕ) → ((z : List ℕ) → a z → leading z ≡ 0) → (optional hyphen then a) y → leading y ≡ 0
unfolding leading is_digit
joined-undigit a y f j = go j.one
  where
    go : optional hyphen j.front → leading y ≡ 0
    go (inl e) = ap leading (j.whole ∙ ap (λ (u : List ℕ). u ++ j.back) e) ∙ f j.back j.other
    go (inr e) = ap leading (j.whole ∙ ap (λ (u : List ℕ). u ++ j.back) e)

-- ---- a month and what follows it

abbrev year_end : Texts
year_end = optional (hyphen then two_or_four_digits)

is-year : (x : List ℕ) → is_year x ≡ true → year_end x
unfolding is_year
is-year [] h = inl refl
is-year (b ∷ x) h =
    let f = both (is_hyphen b) (is_digits 2 2 x || is_digits 4 4 x) h in
    inr (record { front = b ∷ []; back = x; whole = refl; one = ap (λ (c : ℕ). c ∷ []) (eqb-true b 45 f.0); other = go (either _ _ f.1) })
  where
    go : (is_digits 2 2 x ≡ true) ⊎ (is_digits 4 4 x ≡ true) → two_or_four_digits x
    go (inl d) = inl (is-digits 2 2 x d)
    go (inr d) = inr (is-digits 4 4 x d)

year-is : (x : List ℕ) → year_end x → is_year x ≡ true
unfolding is_year
year-is x (inl e) = ap is_year e
year-is x (inr j) = ap is_year (j.whole ∙ ap (λ (u : List ℕ). u ++ j.back) j.one) ∙ go j.other
  where
    go : two_or_four_digits j.back → (is_digits 2 2 j.back || is_digits 4 4 j.back) ≡ true
    go (inl d) = rw (digits-is 2 2 j.back d)
    go (inr d) = rw (digits-is 4 4 j.back d) (or_yes (is_digits 2 2 j.back))

-- a month, then a text of another kind
module _ (a : Texts) (x : List ℕ) where
  month-joined : is_month (take 3 x) ≡ true → a (drop 3 x) → (month then a) x
  month-joined m h = record { front = take 3 x; back = drop 3 x; whole = sym (take-append-drop 3 x); one = is-month (take 3 x) m; other = h }

  module _ (j : (month then a) x) where
    led : Led j.front j.back
    led = named-led j.front j.back (month-named j.front j.one)

    joined-month : is_month (take 3 x) ≡ true
    joined-month = ap is_month (ap (take 3) j.whole ∙ take_at j.front j.back 3 led.long) ∙ month-is j.front j.one

    joined-rest : a (drop 3 x)
    joined-rest = subst a (sym (ap (drop 3) j.whole ∙ drop_at j.front j.back 3 led.long)) j.other

    month-undigit : leading x ≡ 0
    month-undigit = ap leading j.whole ∙ led.undigit

    month-unhyphen : past_hyphen x ≡ x
    month-unhyphen = ap past_hyphen j.whole ∙ (led.unhyphen ∙ sym j.whole)

-- ---- a day, then a month

abbrev day_month : Texts
day_month = Day then optional hyphen then month then year_end

module _ (x : List ℕ) where
  is-day-month : is_day_month x ≡ true → day_month x
  unfolding is_day_month is_month_year
  is-day-month h =
      let y = past_hyphen (after_digits x) in
      let f = both (is_day (take (leading x) x)) (is_month (take 3 y) && is_year (drop 3 y)) h in
      let g = both (is_month (take 3 y)) (is_year (drop 3 y)) f.1 in
      record {
        front = take (leading x) x;
        back = after_digits x;
        whole = sym (take-append-drop (leading x) x);
        one = is-day (take (leading x) x) f.0;
        other = past-joined (month then year_end) (after_digits x) (month-joined year_end y g.0 (is-year (drop 3 y) g.1));
      }

  module _ (j : day_month x) where
    rest-undigit : leading j.back ≡ 0
    rest-undigit = joined-undigit (month then year_end) j.back (month-undigit year_end) j.other

    day-leads : leading x ≡ length j.front
    day-leads = ap leading j.whole ∙ front-leads j.front j.back (all_digits j.front j.one.digits.all) rest-undigit

    day-front : take (leading x) x ≡ j.front
    day-front = (λ i. take (day-leads i) (j.whole i)) ∙ take_at j.front j.back (length j.front) refl

    day-back : after_digits x ≡ j.back
    day-back = (λ i. drop (day-leads i) (j.whole i)) ∙ drop_at j.front j.back (length j.front) refl

    day-month-is : is_day_month x ≡ true
    unfolding is_day_month is_month_year
    day-month-is =
        let m = joined-past (month then year_end) j.back (month-unhyphen year_end) j.other in
        let y = past_hyphen j.back in
        rw (day-front, day-back, day-is j.front j.one, joined-month year_end y m) (year-is (drop 3 y) (joined-rest year_end y m))

    day-month-some : 0 < leading x
    day-month-some = let l = j.one.digits.least in omega (arith, day-leads)

-- ---- a month, then a day

abbrev month_day : Texts
month_day = month then optional hyphen then Day

day-unhyphen : (z : List ℕ) → Day z → past_hyphen z ≡ z
unfolding past_hyphen
day-unhyphen [] d = refl
day-unhyphen (b ∷ z) d = let l = digit_low b (d.digits.all 0 (omega arith)) in rw (ne_eqb b 45 (λ e. omega arith))

module _ (x : List ℕ) where
  is-month-day : is_month_day x ≡ true → month_day x
  unfolding is_month_day
  is-month-day h =
      let f = both (is_month (take 3 x)) (is_day (past_hyphen (drop 3 x))) h in
      month-joined (optional hyphen then Day) x f.0 (past-joined Day (drop 3 x) (is-day (past_hyphen (drop 3 x)) f.1))

  month-day-is : month_day x → is_month_day x ≡ true
  unfolding is_month_day
  month-day-is j =
      let d = joined-past Day (drop 3 x) day-unhyphen (joined-rest (optional hyphen then Day) x j) in
      rw (joined-month (optional hyphen then Day) x j) (day-is (past_hyphen (drop 3 x)) d)

-- ---- groups of digits

abbrev last_group : Texts
last_group = optional (hyphen then group)

abbrev more_groups : Texts
more_groups = hyphen then group then last_group

is-group : (x : List ℕ) → is_group (leading x) ≡ true → group (take (leading x) x)
is-group x h =
    let f = both (leb 1 (leading x)) (leb (leading x) 4) h in
    let l = leb-true 1 (leading x) f.0 in
    let m = leb-true (leading x) 4 f.1 in
    let n = length-take-le (leading x) x (leading_low x) in
    record { least = omega arith; most = omega arith; all = digits-all (take (leading x) x) (front-digits x) }

module _ (u v : List ℕ) (g : group u) (z : leading v ≡ 0) where
  group-leads : leading (u ++ v) ≡ length u
  group-leads = front-leads u v (all_digits u g.all) z

  group-is : is_group (leading (u ++ v)) ≡ true
  group-is = rw (group-leads, le-leb 1 (length u) g.least, le-leb (length u) 4 g.most)

  group-rest : after_digits (u ++ v) ≡ v
  group-rest = ap (λ (n : ℕ). drop n (u ++ v)) group-leads ∙ drop_at u v (length u) refl

follow-ends : (w : List ℕ) → groups_follow 0 w ≡ true → length w ≡ 0
unfolding groups_follow
follow-ends [] h = refl
follow-ends (b ∷ w) h = absurd (true≢false (sym h))

-- a text whose digits end it is one group
whole-group : (t : List ℕ) → is_group (leading t) ≡ true → groups_follow 0 (after_digits t) ≡ true → group t
whole-group t g h =
    let e = follow-ends (after_digits t) h in
    let l = length-drop (leading t) t in
    subst group (take_all (leading t) t (omega arith)) (is-group t g)

is_last : (w : List ℕ) → groups_follow 1 w ≡ true → last_group w
unfolding groups_follow
is_last [] h = inl refl
is_last (b ∷ t) h =
    let f = both (is_hyphen b) (is_group (leading t) && groups_follow 0 (after_digits t)) h in
    let g = both (is_group (leading t)) (groups_follow 0 (after_digits t)) f.1 in
    inr (record {
      front = b ∷ [];
      back = t;
      whole = refl;
      one = ap (λ (c : ℕ). c ∷ []) (eqb-true b 45 f.0);
      other = whole-group t g.0 g.1;
    })

is-more : (b : ℕ) (z : List ℕ) → groups_follow 2 (b ∷ z) ≡ true → more_groups (b ∷ z)
unfolding groups_follow
is-more b z h =
    let f = both (is_hyphen b) (is_group (leading z) && groups_follow 1 (after_digits z)) h in
    let g = both (is_group (leading z)) (groups_follow 1 (after_digits z)) f.1 in
    record {
      front = b ∷ [];
      back = z;
      whole = refl;
      one = ap (λ (c : ℕ). c ∷ []) (eqb-true b 45 f.0);
      other = record {
        front = take (leading z) z;
        back = after_digits z;
        whole = sym (take-append-drop (leading z) z);
        one = is-group z g.0;
        other = is_last (after_digits z) g.1;
      };
    }

-- what begins with a hyphen begins with no digit
hyphen-undigit : (a : Texts) (w : List ℕ) → (hyphen then a) w → leading w ≡ 0
unfolding leading is_digit
hyphen-undigit a w j = ap leading (j.whole ∙ ap (λ (u : List ℕ). u ++ j.back) j.one)

last-undigit : (w : List ℕ) → last_group w → leading w ≡ 0
unfolding leading
last-undigit w (inl e) = ap leading e
last-undigit w (inr j) = hyphen-undigit group w j

last-is : (w : List ℕ) → last_group w → groups_follow 1 w ≡ true
unfolding groups_follow
last-is w (inl e) = ap (groups_follow 1) e
last-is w (inr j) =
    let t = j.back in
    let l = all_digits t j.other.all in
    let n : after_digits t ≡ [] = ap (λ (k : ℕ). drop k t) l ∙ drop-length t in
    ap (groups_follow 1) (j.whole ∙ ap (λ (u : List ℕ). u ++ t) j.one)
    ∙ rw (l, le-leb 1 (length t) j.other.least, le-leb (length t) 4 j.other.most, drop-length t)

more-is : (v : List ℕ) → more_groups v → groups_follow 2 v ≡ true
unfolding groups_follow
more-is v j =
    let k = j.other in
    let z = last-undigit k.back k.other in
    ap (groups_follow 2) (j.whole ∙ ap (λ (u : List ℕ). u ++ j.back) j.one)
    ∙ rw (k.whole, group-is k.front k.back k.one z, group-rest k.front k.back k.one z) (last-is k.back k.other)

more-some : (v : List ℕ) → more_groups v → 0 < length v
more-some v j =
    let e : length v ≡ suc (length j.back) = ap length (j.whole ∙ ap (λ (u : List ℕ). u ++ j.back) j.one) in
    omega arith

abbrev groups : Texts
groups = group then more_groups

module _ (x : List ℕ) where
  is-groups : is_groups x ≡ true → groups x
  unfolding is_groups
  is-groups h =
      let f = both (is_group (leading x)) (not (leb (length x) (leading x)) && groups_follow 2 (after_digits x)) h in
      let g = both (not (leb (length x) (leading x))) (groups_follow 2 (after_digits x)) f.1 in
      record {
        front = take (leading x) x;
        back = after_digits x;
        whole = sym (take-append-drop (leading x) x);
        one = is-group x f.0;
        other = go (after_digits x) refl (leb-false (length x) (leading x) (not-true _ g.0)) g.1;
      }
    where
      go : (v : List ℕ) → after_digits x ≡ v → leading x < length x → groups_follow 2 v ≡ true → more_groups v
      go [] e l h = let n = length-drop (leading x) x in let m = ap length e in absurd (omega arith)
      go (b ∷ z) e l h = is-more b z h

  module _ (j : groups x) where
    more-undigit : leading j.back ≡ 0
    more-undigit = hyphen-undigit (group then last_group) j.back j.other

    groups-lead : leading x ≡ length j.front
    groups-lead = ap leading j.whole ∙ group-leads j.front j.back j.one more-undigit

    groups-is : is_groups x ≡ true
    unfolding is_groups
    groups-is =
        let n = ap length j.whole ∙ length-append j.front j.back in
        let m = more-some j.back j.other in
        let g = ap (λ (y : List ℕ). is_group (leading y)) j.whole ∙ group-is j.front j.back j.one more-undigit in
        let r = ap after_digits j.whole ∙ group-rest j.front j.back j.one more-undigit in
        rw (g, lt-leb (length x) (leading x) (omega (arith, groups-lead)), r) (more-is j.back j.other)

    groups-some : 0 < leading x
    groups-some = let l = j.one.least in omega (arith, groups-lead)

-- ---- both ways

pub is-date : (x : List ℕ) → is_date x ≡ true → date x
unfolding is_date
is-date x h = go (eqb (leading x) 0) h
  where
    some : (is_day_month x ≡ true) ⊎ (is_groups x ≡ true) → date x
    some (inl d) = inl (is-day-month x d)
    some (inr g) = inr (inr (is-groups x g))

    go : (t : Bool) → pick t (is_month_day x) (is_day_month x || is_groups x) ≡ true → date x
    go true h = inr (inl (is-month-day x h))
    go false h = some (either (is_day_month x) (is_groups x) h)

pub date-is : (x : List ℕ) → date x → is_date x ≡ true
unfolding is_date
date-is x (inl j) = rw (ne_eqb (leading x) 0 (λ e. let l = day-month-some x j in omega arith), day-month-is x j)
date-is x (inr (inl j)) = rw (eq-eqb (leading x) 0 (month-undigit (optional hyphen then Day) x j)) (month-day-is x j)
date-is x (inr (inr j)) = rw (ne_eqb (leading x) 0 (λ e. let l = groups-some x j in omega arith), groups-is x j) (or_yes (is_day_month x))
