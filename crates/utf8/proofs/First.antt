-- The place of the first ill-formed sequence, as the paper says it: `first_bad` is such a place, and there is no other. Assumes nothing.
use Rattle.std.specs.Prelude.{◌≡◌, refl, Bool, true, false, ◌&&◌, List, [], ◌∷◌, ℕ, zero, suc, ◌+◌, ◌≤◌, ◌<◌, eqb, ltb, length, get_or, take, drop}
use Rattle.std.proofs.Common.{sym, ap, ◌∙◌, true≢false, arith, eqb-true, eq-eqb, ltb-true, ltb-false, take-append-drop, length-take-le}
use Rattle.basis.specs.Pick.{pick}
use Rattle.utf8.specs.Table.{Range, table, row_at, in_ranges, WellFormed, front_length, bad_after, walk, well_formed, is_bad, lowest_from, first_bad}
use Rattle.utf8.specs.Text.{fits-take, fits-length, row-front, front-row, judge-none, formed-skip, ended, formed-yes, yes-formed}

-- everything before place i is well formed, and the bytes from there on begin with those of no row of the table
pub record BadAt (s : List ℕ) (i : ℕ) : Type 0 where
  pub in-text : i ≤ length s
  pub before : WellFormed (take i s)
  pub none-starts : (k : ℕ) → k < length table → in_ranges (row_at k) (drop i s) ≡ false

-- no sequence at the front: the bytes fit no row

none-front : (s : List ℕ) → ((k : ℕ) → k < length table → in_ranges (row_at k) s ≡ false) → front_length s ≡ 0
unfolding front_length
none-front [] h = refl
none-front (b ∷ s) h = by (front_length (b ∷ s)) refl
  where
    by : (n : ℕ) → front_length (b ∷ s) ≡ n → n ≡ 0
    by zero q = refl
    by (suc n) q = let f = front-row b n s q in absurd (true≢false (sym f.fit ∙ h f.at f.in_rows))

filled : List (List Range) → Bool
filled [] = true
filled ([] ∷ rows) = false
filled ((r ∷ rs) ∷ rows) = filled rows

filled_at_lem : (rows : List (List Range)) (k : ℕ) → filled rows ≡ true → k < length rows → 0 < length (get_or rows k [])
unfolding filled
filled_at_lem [] k e l = absurd (omega arith)
filled_at_lem ([] ∷ rows) k e l = absurd (true≢false (sym e))
filled_at_lem ((r ∷ rs) ∷ rows) zero e l = omega arith
filled_at_lem ((r ∷ rs) ∷ rows) (suc k) e l = filled_at_lem rows k e (omega arith)

fit-front : (k b : ℕ) (s : List ℕ) (row : List Range) → k < length table → row_at k ≡ row → 0 < length row → in_ranges row (b ∷ s) ≡ true
    → front_length (b ∷ s) ≡ length row
fit-front k b s [] l q p e = absurd (omega arith)
fit-front k b s (r ∷ rs) l q p e =
    let most : suc (length rs) ≤ suc (length s) = fits-length (r ∷ rs) (b ∷ s) e in
    let len : length (take (length rs) s) ≡ length rs = length-take-le (length rs) s (omega arith) in
    let at = row-front k b (take (length rs) s) (drop (length rs) s) (r ∷ rs) l q (ap suc len) (fits-take (r ∷ rs) (b ∷ s) e) in
    rw (take-append-drop (length rs) s) at at ∙ ap suc len

front-none : (s : List ℕ) (k : ℕ) → front_length s ≡ 0 → k < length table → in_ranges (row_at k) s ≡ false
unfolding filled
front-none s k e l = by s e (in_ranges (row_at k) s) refl
  where
    some : 0 < length (row_at k)
    some = filled_at_lem table k refl l

    by : (s : List ℕ) → front_length s ≡ 0 → (x : Bool) → in_ranges (row_at k) s ≡ x → x ≡ false
    by s e false q = refl
    by [] e true q = absurd (omega (arith, some, fits-length (row_at k) [] q))
    by (b ∷ s) e true q = absurd (omega (arith, some, fit-front k b s (row_at k) l refl some q))

-- the lowest place

lowest-is : (p : ℕ → Bool) (i n m : ℕ) → i ≤ m → m ≤ i + n → ((j : ℕ) → i ≤ j → j < m → p j ≡ false) → (m < i + n → p m ≡ true) → lowest_from p i n ≡ m
unfolding lowest_from
lowest-is p i zero m a b f t = omega arith
lowest-is p i (suc n) m a b f t =
    by (p i) (ltb i m) refl refl (λ past. lowest-is p (suc i) n m past (omega arith) (λ j g h. f j (omega arith) h) (λ h. t (omega arith)))
  where
    by : (x y : Bool) → p i ≡ x → ltb i m ≡ y → (suc i ≤ m → lowest_from p (suc i) n ≡ m) → pick x i (lowest_from p (suc i) n) ≡ m
    by true true e q later = absurd (true≢false (sym e ∙ f i (omega arith) (ltb-true i m q)))
    by true false e q later = omega (arith, ltb-false i m q)
    by false true e q later = later (ltb-true i m q)
    by false false e q later =
        let same : i ≡ m = omega (arith, ltb-false i m q) in
        absurd (true≢false (sym (t (omega arith)) ∙ ap p (sym same) ∙ e))

-- the walk finds it

-- a well-formed start is passed by the walk
pub walk-on : (s : List ℕ) (i : ℕ) → i ≤ length s → WellFormed (take i s) → walk s ≡ i + walk (drop i s)
walk-on s i h w =
    let on = formed-skip w (drop i s) in
    rw (take-append-drop i s, length-take-le i s h) at on

stops : (s : List ℕ) → front_length s ≡ 0 → walk s ≡ 0
unfolding bad_after
stops [] e = refl
stops (b ∷ s) e = judge-none b s e

not-before : (s : List ℕ) (j : ℕ) → j < walk s → is_bad s j ≡ false
unfolding is_bad
not-before s j h = by (well_formed (take j s)) (eqb (front_length (drop j s)) 0) refl refl
  where
    by : (x y : Bool) → well_formed (take j s) ≡ x → eqb (front_length (drop j s)) 0 ≡ y → well_formed (take j s) && eqb (front_length (drop j s)) 0 ≡ false
    by false y p q = rw p
    by true false p q = rw (p, q)
    by true true p q =
        let on = walk-on s j (omega (arith, (ended s).in-text)) (yes-formed (take j s) p) in
        absurd (omega (arith, stops (drop j s) (eqb-true (front_length (drop j s)) 0 q)))

there : (s : List ℕ) → is_bad s (walk s) ≡ true
unfolding is_bad
there s = rw (formed-yes (take (walk s) s) (ended s).before, eq-eqb (front_length (drop (walk s) s)) 0 (ended s).none-there)

pub first_walk : (s : List ℕ) → first_bad s ≡ walk s
unfolding first_bad
first_walk s = lowest-is (is_bad s) 0 (length s) (walk s) (omega arith) (omega (arith, (ended s).in-text)) (λ j g h. not-before s j h) (λ h. there s)

-- a text is well formed exactly where the place is its end
pub formed-end : (s : List ℕ) → well_formed s ≡ eqb (first_bad s) (length s)
unfolding well_formed
formed-end s = rw (first_walk s)

-- both directions: it is such a place, and each such place is it

pub first-bad : (s : List ℕ) → BadAt s (first_bad s)
first-bad s =
    rw (first_walk s)
    (record { in-text = (ended s).in-text; before = (ended s).before; none-starts = λ k l. front-none (drop (walk s) s) k (ended s).none-there l })

-- no other place is the first bad one (an end theorem: nothing cites it)
pub bad-first : (s : List ℕ) (i : ℕ) → BadAt s i → i ≡ first_bad s
bad-first s i b =
    let on = walk-on s i b.in-text b.before in
    let end = stops (drop i s) (none-front (drop i s) b.none-starts) in
    omega (arith, first_walk s)
