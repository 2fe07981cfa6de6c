-- Laws of a search over a table of any content: what each answer tells, and what it becomes when a place is taken. Assumes nothing.
use mathlib.Core.Path.{◌≡◌, refl, sym, ap, ◌∙◌}
use mathlib.Core.Logic.{◌≢◌, ◌⊎◌, inl, inr, ⊎_elim, by_cases}
use mathlib.Core.Bool.{Bool, true, false}
use mathlib.Core.List.{List, [], ◌∷◌}
use Prim.Native.Nat.{ℕ, zero, suc, ◌+◌, ◌%◌, ◌≤◌, ◌<◌}
use native.Mathlib.Nat.{mod-lt}
use native.Mathlib.Decide.{ℕ_discrete}
use native.Mathlib.Omega.{arith}
use borrow.Author.Tests.{eqb-true, eqb-false, eq-eqb, ne_eqb, leb-true, leb-false}
use lib.Dec.{eqb, leb}
use lib.ListN.{length, get_or, set, replicate, length-set}
use lib.Seq.{get_or-set_same, get_or-set_other}
use Rattle.merging.specs.declared.Found.{Found}
use Rattle.merging.specs.declared.Found.TheVariants.{Row, Free, Full}
use Rattle.merging.specs.Table.{after_if, after, on_hit, on_entry, seek, search_from, filled}

-- a row is found at this place, or at a later one
row_step_lem : (hit : ℕ → Bool) (p n r : ℕ) (f : Found) → on_entry hit p n f ≡ Row r → ((hit r ≡ true) × (n ≡ suc r)) ⊎ (f ≡ Row r)
row_step_lem hit p zero r f e = let z : ◌≡◌ {A = ℕ} 0 1 = cc in absurd (omega arith)
row_step_lem hit p (suc s) r f e = on (hit s) refl e
  where
    on : (b : Bool) → hit s ≡ b → on_hit s b f ≡ Row r → ((hit r ≡ true) × (suc s ≡ suc r)) ⊎ (f ≡ Row r)
    on true h q = let z : s ≡ r = cc in inl (rw (← z) h, ap suc z)
    on false h q = inr q

-- an empty place is found: this one, or a later one, and here is another row
free_step : (hit : ℕ → Bool) (p n q : ℕ) (f : Found) → on_entry hit p n f ≡ Free q → ((n ≡ 0) × (p ≡ q)) ⊎ (((s : ℕ) × (n ≡ suc s)) × (f ≡ Free q))
free_step hit p zero q f e = inl (refl, cc)
free_step hit p (suc s) q f e = on (hit s) e
  where
    on : (b : Bool) → on_hit s b f ≡ Free q → ((suc s ≡ 0) × (p ≡ q)) ⊎ (((u : ℕ) × (suc s ≡ suc u)) × (f ≡ Free q))
    on true z = let w : ◌≡◌ {A = ℕ} 0 1 = cc in absurd (omega arith)
    on false z = inr ((s, refl), z)

full-step : (hit : ℕ → Bool) (p n : ℕ) (f : Found) → on_entry hit p n f ≡ Full → (n ≢ 0) × (f ≡ Full)
full-step hit p zero f e = let w : ◌≡◌ {A = ℕ} 0 1 = cc in absurd (omega arith)
full-step hit p (suc s) f e = on (hit s) e
  where
    on : (b : Bool) → on_hit s b f ≡ Full → (suc s ≢ 0) × (f ≡ Full)
    on true z = let w : ◌≡◌ {A = ℕ} 0 1 = cc in absurd (omega arith)
    on false z = ((λ w. omega arith), z)

pub after-lt : (n p : ℕ) → p < n → after n p < n
unfolding after
after-lt n p h = go (eqb (suc p) n) refl
  where
    go : (b : Bool) → eqb (suc p) n ≡ b → after_if p b < n
    go true e = omega arith
    go false e = omega (arith, eqb-false (suc p) n e)

-- a row that is found is one that is looked for, and an entry names it
pub seek-row : (t : List ℕ) (hit : ℕ → Bool) (p k r : ℕ) → seek t hit p k ≡ Row r → (hit r ≡ true) × ((q : ℕ) × (get_or t q 0 ≡ suc r))
unfolding seek
seek-row t hit p zero r e = let z : ◌≡◌ {A = ℕ} 0 1 = cc in absurd (omega arith)
seek-row t hit p (suc k) r e =
    ⊎_elim (λ w. (w.0, (p, w.1))) (seek-row t hit (after (length t) p) k r)
    (row_step_lem hit p (get_or t p 0) r (seek t hit (after (length t) p) k) e)

-- a free place is one, and is empty
pub seek-free : (t : List ℕ) (hit : ℕ → Bool) (p k q : ℕ) → p < length t → seek t hit p k ≡ Free q → (get_or t q 0 ≡ 0) × (q < length t)
unfolding seek
seek-free t hit p zero q h e = let z : ◌≡◌ {A = ℕ} 0 1 = cc in absurd (omega arith)
seek-free t hit p (suc k) q h e =
    ⊎_elim (λ w. (rw w.1 at w.0, rw w.1 at h)) (λ w. seek-free t hit (after (length t) p) k q (after-lt (length t) p h) w.1)
    (free_step hit p (get_or t p 0) q (seek t hit (after (length t) p) k) e)

pub never-empty : (t : List ℕ) (hit : ℕ → Bool) (p q : ℕ) → seek t hit p 0 ≡ Free q → ⊥
unfolding seek
never-empty t hit p q e = let z : ◌≡◌ {A = ℕ} 0 1 = cc in omega arith

-- only what is asked of entries matters
ext-step : (hit hit' : ℕ → Bool) (p n : ℕ) (f g : Found) → ((r : ℕ) → n ≡ suc r → hit r ≡ hit' r) → f ≡ g → on_entry hit p n f ≡ on_entry hit' p n g
ext-step hit hit' p zero f g h e = refl
ext-step hit hit' p (suc r) f g h e = rw (h r refl, e)

pub seek-ext : (t : List ℕ) (hit hit' : ℕ → Bool) → ((p r : ℕ) → get_or t p 0 ≡ suc r → hit r ≡ hit' r) → (p k : ℕ) → seek t hit p k ≡ seek t hit' p k
unfolding seek
seek-ext t hit hit' h p zero = refl
seek-ext t hit hit' h p (suc k) =
    ext-step hit hit' p (get_or t p 0) (seek t hit (after (length t) p) k) (seek t hit' (after (length t) p) k) (h p)
    (seek-ext t hit hit' h (after (length t) p) k)

-- entries before stay found
old-step : (hit : ℕ → Bool) (p n m r : ℕ) (f g : Found) → (n ≢ 0 → m ≡ n) → (f ≡ Row r → g ≡ Row r) → on_entry hit p n f ≡ Row r → on_entry hit p m g ≡ Row r
old-step hit p zero m r f g h ih e = let z : ◌≡◌ {A = ℕ} 0 1 = cc in absurd (omega arith)
old-step hit p (suc s) m r f g h ih e = rw (h (λ z. omega arith)) (on (hit s) e)
  where
    on : (b : Bool) → on_hit s b f ≡ Row r → on_hit s b g ≡ Row r
    on true z = cc
    on false z = ih z

other : (t : List ℕ) (p q v : ℕ) → get_or t q 0 ≡ 0 → get_or t p 0 ≢ 0 → get_or (set t q v) p 0 ≡ get_or t p 0
other t p q v e h = get_or-set_other t q p v 0 (λ z. h (rw z e))

pub seek-old : (t : List ℕ) (hit : ℕ → Bool) (q v r : ℕ) → get_or t q 0 ≡ 0 → (p k : ℕ) → seek t hit p k ≡ Row r → seek (set t q v) hit p k ≡ Row r
unfolding seek
seek-old t hit q v r h p zero e = let z : ◌≡◌ {A = ℕ} 0 1 = cc in absurd (omega arith)
seek-old t hit q v r h p (suc k) e =
    rw (length-set t q v)
    (old-step hit p (get_or t p 0) (get_or (set t q v) p 0) r (seek t hit (after (length t) p) k) (seek (set t q v) hit (after (length t) p) k)
    (other t p q v h) (seek-old t hit q v r h (after (length t) p) k) e)

-- the new row is found where the free place was
new-step : (p m new : ℕ) (g : Found) → ((m ≡ suc new) ⊎ (((s : ℕ) × ((m ≡ suc s) × (s ≢ new))) × (g ≡ Row new))) → on_entry (eqb new) p m g ≡ Row new
new-step p m new g (inl e) = rw (e, eq-eqb new new refl)
new-step p m new g (inr w) = rw (w.0.1.0, ne_eqb new w.0.0 (λ z. w.0.1.1 (sym z))) w.1

pub seek-new : (t : List ℕ) (hit : ℕ → Bool) (q new : ℕ) → q < length t → get_or t q 0 ≡ 0 → ((p r : ℕ) → get_or t p 0 ≡ suc r → r ≢ new)
    → (p k : ℕ) → seek t hit p k ≡ Free q → seek (set t q (suc new)) (eqb new) p k ≡ Row new
unfolding seek
seek-new t hit q new l h d p zero e = let z : ◌≡◌ {A = ℕ} 0 1 = cc in absurd (omega arith)
seek-new t hit q new l h d p (suc k) e =
    rw (length-set t q (suc new))
    (new-step p (get_or (set t q (suc new)) p 0) new (seek (set t q (suc new)) (eqb new) (after (length t) p) k)
    (⊎_elim
    (λ w. inl (rw w.1 (get_or-set_same t q (suc new) 0 l)))
    (λ w. inr (
      (w.0.0, (other t p q (suc new) h (λ z. omega (arith, w.0.1)) ∙ w.0.1, d p w.0.0 w.0.1)),
      seek-new t hit q new l h d (after (length t) p) k w.1,
    ))
    (free_step hit p (get_or t p 0) q (seek t hit (after (length t) p) k) e)))

full-seen : (t : List ℕ) (hit : ℕ → Bool) (p k : ℕ) → p < length t → k ≤ length t → seek t hit p k ≡ Full
    → ((i : ℕ) → p ≤ i → i < length t → i < p + k → get_or t i 0 ≢ 0) × ((i : ℕ) → i + length t < p + k → get_or t i 0 ≢ 0)
unfolding seek after
full-seen t hit p zero h l e = ((λ i a b c. absurd (omega arith)), (λ i a. absurd (omega arith)))
full-seen t hit p (suc k) h l e =
    let w : (get_or t p 0 ≢ 0) × (seek t hit (after (length t) p) k ≡ Full) = full-step hit p (get_or t p 0) (seek t hit (after (length t) p) k) e in
    go (eqb (suc p) (length t)) refl w.0 (full-seen t hit (after (length t) p) k (after-lt (length t) p h) (omega arith) w.1)
  where
    go : (b : Bool) → eqb (suc p) (length t) ≡ b → get_or t p 0 ≢ 0
        → (((i : ℕ) → after_if p b ≤ i → i < length t → i < after_if p b + k → get_or t i 0 ≢ 0) × ((i : ℕ) → i + length t < after_if p b + k → get_or t i 0 ≢ 0))
        → ((i : ℕ) → p ≤ i → i < length t → i < p + suc k → get_or t i 0 ≢ 0) × ((i : ℕ) → i + length t < p + suc k → get_or t i 0 ≢ 0)
    go true q mine ih =
        let e : suc p ≡ length t = eqb-true (suc p) (length t) q in
        ((λ i a b c. let z : i ≡ p = omega arith in rw z mine), (λ i a. ih.0 i (omega arith) (omega arith) (omega arith)))
    go false q mine ih =
        let e : suc p ≢ length t = eqb-false (suc p) (length t) q in
        ((λ i a b c. by_cases (ℕ_discrete i p) (λ z. rw z mine) (λ z. ih.0 i (omega arith) b (omega arith))), (λ i a. ih.1 i (omega arith)))

all-filled : (t : List ℕ) → ((i : ℕ) → i < length t → get_or t i 0 ≢ 0) → filled t ≡ length t
unfolding filled
all-filled [] h = refl
all-filled (zero ∷ t) h = absurd (h 0 (omega arith) refl)
all-filled (suc e ∷ t) h = ap suc (all-filled t (λ i l. h (suc i) (omega arith)))

pub filled-set : (t : List ℕ) (q v : ℕ) → q < length t → get_or t q 0 ≡ 0 → filled (set t q (suc v)) ≡ suc (filled t)
unfolding filled
filled-set [] q v h e = absurd (omega arith)
filled-set (zero ∷ t) zero v h e = refl
filled-set (suc a ∷ t) zero v h e = absurd (omega arith)
filled-set (zero ∷ t) (suc q) v h e = filled-set t q v (omega arith) e
filled-set (suc a ∷ t) (suc q) v h e = ap suc (filled-set t q v (omega arith) e)

pub filled-zeros : (n : ℕ) → filled (replicate n 0) ≡ 0
unfolding filled
filled-zeros zero = refl
filled-zeros (suc n) = filled-zeros n

-- a table with fewer entries than places is not full
pub never-full : (t : List ℕ) (hit : ℕ → Bool) (h : ℕ) → filled t < length t → search_from t hit h ≢ Full
unfolding search_from
never-full t hit h l e =
    let m : h % length t < length t = mod-lt h (omega arith) in
    let w : ((i : ℕ) → h % length t ≤ i → i < length t → i < h % length t + length t → get_or t i 0 ≢ 0)
    × ((i : ℕ) → i + length t < h % length t + length t → get_or t i 0 ≢ 0) =
    full-seen t hit (h % length t) (length t) m (omega arith) e in
    let z : filled t ≡ length t = all-filled t (λ i a. pick t w i a (leb (h % length t) i) refl) in
    omega arith
  where
    pick : (t : List ℕ) → (((i : ℕ) → h % length t ≤ i → i < length t → i < h % length t + length t → get_or t i 0 ≢ 0)
        × ((i : ℕ) → i + length t < h % length t + length t → get_or t i 0 ≢ 0))
        → (i : ℕ) → i < length t → (b : Bool) → leb (h % length t) i ≡ b → get_or t i 0 ≢ 0
    pick t w i a true q = w.0 i (leb-true (h % length t) i q) a (omega (arith, leb-true (h % length t) i q))
    pick t w i a false q = w.1 i (omega (arith, leb-false (h % length t) i q))
