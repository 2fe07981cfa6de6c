-- Offsets as the code reads and judges them, and rows judged by the kind. The width is a parameter throughout. Assumes nothing.
use Rattle.std.specs.Prelude.{◌≡◌, Bool, not, ◌&&◌, ◌||◌, List, eqb, length, Err}
use Rattle.std.proofs.Math.Path.{refl, sym, ap, subst}
use Rattle.std.proofs.Common.{◌∙◌, true≢false, not-suc-le-zero, zero-add, add-zero}
use Rattle.std.proofs.Math.Bool.{true, false}
use Rattle.std.proofs.Math.Logic.{by_cases}
use Prim.Native.Nat.{ℕ, zero, suc, ◌+◌, ◌-◌, ◌*◌, ◌/◌, ◌≤◌, ◌<◌}
use Rattle.std.proofs.Math.Numerals.{add-one}
use Rattle.std.proofs.Math.Decide.{ℕ_discrete}
use native.Mathlib.Omega.{arith}
use borrow.Author.Tests.{leb-true, le-leb, lt-leb, ltb-true, ltb-false, lt-ltb, le-ltb, ne_eqb, not-false}
use Rattle.std.proofs.Math.Dec.{leb, ltb}
use Rattle.words.specs.Words.{word_at}
use Rattle.bounds.specs.Refusals.{refuse, is_accepted, accepted-both, Why}
use Rattle.bounds.specs.declared.Refusal.TheVariants.{NotUtf8}
use Rattle.null_bits.specs.Bits.{valid_at, null_of, count_nulls}
use Rattle.null_bits.specs.Runs.{put_bits, copy_column}
use Rattle.null_bits.proofs.RunLaws.{bits-same}
use Rattle.column.specs.declared.Kind.{Kind}
use Rattle.offsets.specs.Offsets.{Source, width_of, half, offset_at, offset_count, lawful_at, lawful, cuts, any_null, kind_at, why_kinds}
use Rattle.offsets.specs.Steps.{rising, all_kinds, CutIn}

-- ---- the two widths

module _ (large : Bool) (os : List ℕ) where
  pub count-large : large ≡ true → length os / 8 ≡ offset_count (width_of large) os
  unfolding offset_count
  count-large e = rw e

  pub count_small : large ≡ false → length os / 4 ≡ offset_count (width_of large) os
  unfolding offset_count
  count_small e = rw e

  pub in-large : (j : ℕ) → large ≡ true → j < offset_count (width_of large) os → 8 * j + 8 ≤ length os
  in-large j e h = let g : j < length os / 8 = rw (← count-large e) at h in omega arith

  pub in_small : (j : ℕ) → large ≡ false → j < offset_count (width_of large) os → 4 * j + 4 ≤ length os
  in_small j e h = let g : j < length os / 4 = rw (← count_small e) at h in omega arith

  pub at-large : (j x : ℕ) → large ≡ true → x ≡ word_at os (8 * j) 8 → x ≡ offset_at (width_of large) os j
  unfolding offset_at
  at-large j x e h = rw e h

  pub at_small : (j x : ℕ) → large ≡ false → x ≡ word_at os (4 * j) 4 → x ≡ offset_at (width_of large) os j
  unfolding offset_at
  at_small j x e h = rw e h

pub half-large : (large : Bool) → large ≡ true → 9223372036854775808 ≡ half (width_of large)
half-large large e = rw e

pub half-small : (large : Bool) → large ≡ false → 2147483648 ≡ half (width_of large)
half-small large e = rw e

-- ---- the map's bits, by bytes

pub short-map : (n rows : ℕ) → ltb n ((rows + 7) / 8) ≡ ltb (8 * n) rows
short-map n rows = by (ltb n ((rows + 7) / 8)) refl
  where
    by : (t : Bool) → ltb n ((rows + 7) / 8) ≡ t → t ≡ ltb (8 * n) rows
    by true e = let h = ltb-true n ((rows + 7) / 8) e in sym (lt-ltb (8 * n) rows (omega arith))
    by false e = let h = ltb-false n ((rows + 7) / 8) e in sym (le-ltb (8 * n) rows (omega arith))

pub map-there : (mapped : Bool) (n rows : ℕ) → mapped && ltb (8 * n) rows ≡ false → mapped ≡ true → rows ≤ 8 * n
map-there mapped n rows h e = let g : ltb (8 * n) rows ≡ false = rw e at h in ltb-false (8 * n) rows g

-- ---- rising offsets

module _ (w : ℕ) (os : List ℕ) where
  pub rise-none : rising w os 0 ≡ true
  unfolding rising
  rise-none = refl

  pub rise-more : (j x y : ℕ) → x ≡ offset_at w os j → y ≡ offset_at w os (j + 1) → x ≤ y → rising w os j ≡ true → rising w os (j + 1) ≡ true
  unfolding rising
  rise-more j x y p q h r =
      let e : leb (offset_at w os j) (offset_at w os (j + 1)) ≡ true = le-leb (offset_at w os j) (offset_at w os (j + 1)) (omega arith) in
      let g : rising w os (suc j) ≡ true = rw (r, e) in
      rw (add-one j) g

  pub rise-gives : (n : ℕ) → rising w os n ≡ true → (j : ℕ) → j < n → offset_at w os j ≤ offset_at w os (j + 1)
  unfolding rising
  rise-gives zero h j l = absurd (not-suc-le-zero l)
  rise-gives (suc n) h j l = by (rising w os n) refl (leb (offset_at w os n) (offset_at w os (n + 1))) refl h (rise-gives n)
    where
      by : (t : Bool) → rising w os n ≡ t → (u : Bool) → leb (offset_at w os n) (offset_at w os (n + 1)) ≡ u → t && u ≡ true
          → (rising w os n ≡ true → (j : ℕ) → j < n → offset_at w os j ≤ offset_at w os (j + 1)) → offset_at w os j ≤ offset_at w os (j + 1)
      by true e true f h more =
          by_cases (ℕ_discrete j n) (λ d. rw d (leb-true (offset_at w os n) (offset_at w os (n + 1)) f)) (λ d. more e j (omega arith))
      by true e false f h more = absurd (true≢false (sym h))
      by false e u f h more = absurd (true≢false (sym h))

  pub rise-not : (n j : ℕ) → j < n → offset_at w os (j + 1) < offset_at w os j → false ≡ rising w os n
  rise-not n j l h = by (rising w os n) refl
    where
      by : (t : Bool) → rising w os n ≡ t → false ≡ t
      by true e = absurd (omega (arith, rise-gives n e j l))
      by false e = refl

  rise-suc : (n : ℕ) → rising w os (suc n) ≡ rising w os n && leb (offset_at w os n) (offset_at w os (suc n))
  unfolding rising
  rise-suc n = ap (λ (m : ℕ). rising w os n && leb (offset_at w os n) (offset_at w os m)) (add-one n)

  rise-below : (n : ℕ) → rising w os (suc n) ≡ true → rising w os n ≡ true
  rise-below n h = by (rising w os n) (leb (offset_at w os n) (offset_at w os (suc n))) (sym (rise-suc n) ∙ h)
    where
      by : (t u : Bool) → t && u ≡ true → t ≡ true
      by true u e = refl
      by false u e = e

  pub rise-last : (n : ℕ) → rising w os n ≡ true → (j : ℕ) → j ≤ n → offset_at w os j ≤ offset_at w os n
  rise-last zero h j l = let e : j ≡ 0 = omega arith in rw e (omega arith)
  rise-last (suc n) h j l =
      by_cases (ℕ_discrete j (suc n))
      (λ e. rw e (omega arith))
      (λ d.
      let g = rise-gives (suc n) h n (omega arith) in
      let k : offset_at w os n ≤ offset_at w os (suc n) = rw (add-one n) at g in
      omega (arith, rise-last n (rise-below n h) j (omega arith)))

  -- the definition's walk is this one and the last offset
  pub lawful-is : (n : ℕ) → lawful w os (suc n) ≡ rising w os n && ltb (offset_at w os n) (half w)
  unfolding lawful lawful_at rising
  lawful-is zero = refl
  lawful-is (suc n) = rw (lawful-is n, rise-suc n) (by (rising w os n) (leb (offset_at w os n) (offset_at w os (suc n))) (ltb (offset_at w os (suc n))
      (half w)) refl refl)
    where
      low : (v : Bool) → offset_at w os n ≤ offset_at w os (suc n) → ltb (offset_at w os (suc n)) (half w) ≡ true → ltb (offset_at w os n) (half w)
          && (true && true) ≡ true
      low v h f = let g = ltb-true (offset_at w os (suc n)) (half w) f in rw (lt-ltb (offset_at w os n) (half w) (omega arith))

      none : (a : Bool) → a && false ≡ false
      none true = refl
      none false = refl

      by : (r u v : Bool) → leb (offset_at w os n) (offset_at w os (suc n)) ≡ u → ltb (offset_at w os (suc n)) (half w) ≡ v
          → (r && ltb (offset_at w os n) (half w)) && (v && u) ≡ (r && u) && v
      by false u v e f = refl
      by true true true e f = low true (leb-true (offset_at w os n) (offset_at w os (suc n)) e) f
      by true true false e f = none (ltb (offset_at w os n) (half w))
      by true false true e f = none (ltb (offset_at w os n) (half w))
      by true false false e f = none (ltb (offset_at w os n) (half w))

-- ---- the offsets of so many rows

module _ (w : ℕ) (os : List ℕ) (rows size : ℕ) (e : rows + 1 ≡ offset_count w os) where
  cuts-is : cuts w os size ≡ (rising w os rows && ltb (offset_at w os rows) (half w)) && leb (offset_at w os rows) size
  unfolding cuts
  cuts-is =
      let c : offset_count w os ≡ suc rows = sym e ∙ add-one rows in
      let m : suc rows - 1 ≡ rows = omega arith in
      rw (c, lawful-is w os rows, le-leb 1 (suc rows) (omega arith), m)

  pub cut-negative : (x : ℕ) → x ≡ offset_at w os rows → half w ≤ x → false ≡ cuts w os size
  cut-negative x p h = rw (cuts-is, le-ltb (offset_at w os rows) (half w) (omega arith)) (by (rising w os rows) (leb (offset_at w os rows) size))
    where
      by : (a b : Bool) → false ≡ (a && false) && b
      by true b = refl
      by false b = refl

  pub cut-past : (x : ℕ) → x ≡ offset_at w os rows → size < x → false ≡ cuts w os size
  cut-past x p h = rw (cuts-is, lt-leb (offset_at w os rows) size (omega arith)) (by (rising w os rows && ltb (offset_at w os rows) (half w)))
    where
      by : (a : Bool) → false ≡ a && false
      by true = refl
      by false = refl

  pub cut-rest : (x : ℕ) (b : Bool) → x ≡ offset_at w os rows → x < half w → x ≤ size → b ≡ rising w os rows → b ≡ cuts w os size
  cut-rest x b p h k r =
      rw (cuts-is, lt-ltb (offset_at w os rows) (half w) (omega arith), le-leb (offset_at w os rows) size (omega arith), ← r) (by b)
    where
      by : (b : Bool) → b ≡ (b && true) && true
      by true = refl
      by false = refl

  pub cuts-give : cuts w os size ≡ true → (j : ℕ) → j < rows → CutIn w os size j
  cuts-give h j l = by (rising w os rows) refl (ltb (offset_at w os rows) (half w)) (leb (offset_at w os rows) size) refl (sym cuts-is ∙ h)
    where
      by : (r : Bool) → rising w os rows ≡ r → (a b : Bool) → leb (offset_at w os rows) size ≡ b → (r && a) && b ≡ true → CutIn w os size j
      by true p true true q g =
          record {
            there = omega arith;
            rise = rise-gives w os rows p j l;
            last = let k = rise-last w os rows p (j + 1) (omega arith) in let m = leb-true (offset_at w os rows) size q in omega arith;
          }
      by true p true false q g = absurd (true≢false (sym g))
      by true p false b q g = absurd (true≢false (sym g))
      by false p a b q g = absurd (true≢false (sym g))

-- the same by the definition's count
pub cuts-count : (w : ℕ) (os : List ℕ) (size : ℕ) → cuts w os size ≡ true → 1 ≤ offset_count w os
unfolding cuts
cuts-count w os size h = by (leb 1 (offset_count w os)) refl (lawful w os (offset_count w os) && leb (offset_at w os (offset_count w os - 1)) size) h
  where
    by : (t : Bool) → leb 1 (offset_count w os) ≡ t → (u : Bool) → t && u ≡ true → 1 ≤ offset_count w os
    by true e u g = leb-true 1 (offset_count w os) e
    by false e u g = absurd (true≢false (sym g))

-- ---- nulls

pub null-some : (nulls : List ℕ) (mapped : Bool) (n : ℕ) → any_null nulls mapped n ≡ not (eqb (count_nulls nulls mapped 0 n) 0)
unfolding any_null count_nulls
null-some nulls mapped zero = refl
null-some nulls mapped (suc n) = rw (zero-add n, null-some nulls mapped n) (by (count_nulls nulls mapped 0 n) (valid_at nulls mapped n))
  where
    or-none : (a : Bool) → a || false ≡ a
    or-none true = refl
    or-none false = refl

    or-all : (a : Bool) → a || true ≡ true
    or-all true = refl
    or-all false = refl

    by : (c : ℕ) (v : Bool) → not (eqb c 0) || not v ≡ not (eqb (c + null_of v) 0)
    by c true = rw (add-zero c) (or-none (not (eqb c 0)))
    by c false = rw (ne_eqb (c + 1) 0 (λ e. omega arith)) (or-all (not (eqb c 0)))

-- where none is, each row is valid
pub null-none : (nulls : List ℕ) (mapped : Bool) (n : ℕ) → any_null nulls mapped n ≡ false → (r : ℕ) → r < n → valid_at nulls mapped r ≡ true
unfolding any_null
null-none nulls mapped zero h r l = absurd (not-suc-le-zero l)
null-none nulls mapped (suc n) h r l = by (any_null nulls mapped n) refl (valid_at nulls mapped n) refl h (null-none nulls mapped n)
  where
    by : (t : Bool) → any_null nulls mapped n ≡ t → (v : Bool) → valid_at nulls mapped n ≡ v → t || not v ≡ false
        → (any_null nulls mapped n ≡ false → (r : ℕ) → r < n → valid_at nulls mapped r ≡ true) → valid_at nulls mapped r ≡ true
    by true e v f h more = absurd (true≢false h)
    by false e true f h more = by_cases (ℕ_discrete r n) (λ d. rw d f) (λ d. more e r (omega arith))
    by false e false f h more = absurd (true≢false h)

pub bits-from : (ms nulls : List ℕ) (mapped : Bool) (n : ℕ) → copy_column ms 0 nulls mapped 0 n ≡ put_bits ms 0 (λ r. valid_at nulls mapped r) n
bits-from ms nulls mapped n = bits-same ms 0 (λ k. valid_at nulls mapped (0 + k)) (λ r. valid_at nulls mapped r) n (λ k l. ap (valid_at nulls mapped) (zero-add k))

-- ---- a row that isn't of the kind

module _ (w : ℕ) (s : Source) (k : Kind) where
  pub kinds-begin : all_kinds w s k 0 ≡ true
  unfolding all_kinds
  kinds-begin = refl

  pub kinds-more : (n : ℕ) → all_kinds w s k n ≡ true → kind_at w s k n ≡ true → all_kinds w s k (n + 1) ≡ true
  unfolding all_kinds
  kinds-more n e f = let g : all_kinds w s k (suc n) ≡ true = rw (e, f) in rw (add-one n) g

  pub kinds-all : (n : ℕ) → ((j : ℕ) → j < n → kind_at w s k j ≡ true) → all_kinds w s k n ≡ true
  unfolding all_kinds
  kinds-all zero h = refl
  kinds-all (suc n) h = rw (kinds-all n (λ j l. h j (omega arith)), h n (omega arith))

  pub kinds-stop : (i n : ℕ) → i < n → kind_at w s k i ≡ false → false ≡ all_kinds w s k n
  unfolding all_kinds
  kinds-stop i zero l b = absurd (not-suc-le-zero l)
  kinds-stop i (suc n) l b = by_cases (ℕ_discrete i n) (λ e. rw (← e, b) (none (all_kinds w s k i))) (λ d. rw (← (kinds-stop i n (omega arith) b)))
    where
      none : (a : Bool) → false ≡ a && false
      none true = refl
      none false = refl

  -- the verdict on all rows is one test
  pub kinds-are : (n : ℕ) (y : Why) → refuse NotUtf8 (not (all_kinds w s k n)) y ≡ why_kinds w s k n y
  unfolding why_kinds all_kinds refuse
  kinds-are zero y = refl
  kinds-are (suc n) y = by (all_kinds w s k n) (kind_at w s k n) (kinds-are n (refuse NotUtf8 (not (kind_at w s k n)) y))
    where
      by : (a b : Bool) → refuse NotUtf8 (not a) (refuse NotUtf8 (not b) y) ≡ why_kinds w s k n (refuse NotUtf8 (not b) y)
          → refuse NotUtf8 (not (a && b)) y ≡ why_kinds w s k n (refuse NotUtf8 (not b) y)
      by true b e = e
      by false b e = e

  pub kinds-none : (n : ℕ) (y : Why) → ((j : ℕ) → j < n → kind_at w s k j ≡ true) → y ≡ why_kinds w s k n y
  unfolding refuse
  kinds-none n y h = rw (kinds-all n h) at (kinds-are n y)

  pub kinds-bad : (i n : ℕ) (y : Why) → i < n → kind_at w s k i ≡ false → Err NotUtf8 ≡ why_kinds w s k n y
  unfolding refuse
  kinds-bad i n y l b = rw (← kinds-stop i n l b) at (kinds-are n y)

  pub kinds-good : (n : ℕ) (y : Why) → is_accepted (why_kinds w s k n y) ≡ true → ((j : ℕ) → j < n → kind_at w s k j ≡ true) × (is_accepted y ≡ true)
  unfolding why_kinds
  kinds-good zero y a = (λ j l. absurd (not-suc-le-zero l), a)
  kinds-good (suc n) y a =
      let below = kinds-good n (refuse NotUtf8 (not (kind_at w s k n)) y) a in
      let here = accepted-both NotUtf8 (not (kind_at w s k n)) y below.1 in
      (λ j l. by_cases (ℕ_discrete j n) (λ e. rw e (not-false (kind_at w s k n) here.0)) (λ d. below.0 j (omega arith)), here.1)
