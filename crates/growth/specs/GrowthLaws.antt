-- What growth does: it takes the sheet's sizes in their order and stays on the sheet. A law about the start and the eight sizes is a test that computes at
-- each of the nine. Assumes nothing.
use Rattle.std.specs.Prelude.{ℕ, zero, suc, ◌≤◌, ◌<◌, ◌≡◌, refl, Bool, true, false, not, ◌||◌, ◌&&◌, eqb, ltb, leb, get_or, Err}
use Rattle.std.proofs.Common.{sym, ap, ◌∙◌, true≢false, arith, le-leb, eqb-true, eq-eqb, ltb-true, ltb-false}
use Rattle.std.proofs.lemmas.Bool.{lt-leb}
use Rattle.bounds.specs.Bounds.{byte_limit}
use Rattle.bounds.specs.Refusals.{refuse, accepted}
use Rattle.bounds.specs.declared.Refusal.TheVariants.{Fit}
use Rattle.growth.specs.declared.Step.{Step}
use Rattle.growth.specs.declared.Growth.{Growth}
use Rattle.growth.specs.declared.Growth.TheVariants.{Fixed, Doubling}
use Rattle.growth.specs.Growing.{start_size, sheet, next_size, size_after, reached_in, fits_size, fits_growth, grown, step_why, step_of}

and_both : (x y : Bool) → x && y ≡ true → (x ≡ true) × (y ≡ true)
and_both true y e = (refl, e)
and_both false y e = absurd (true≢false (sym e))

or_left : (x y : Bool) → x ≡ true → x || y ≡ true
or_left true y e = refl
or_left false y e = absurd (true≢false (sym e))

or_right : (x y : Bool) → y ≡ true → x || y ≡ true
or_right true y e = refl
or_right false y e = e

-- the test holds at each number below n
unfoldable pub each_below : (ℕ → Bool) → ℕ → Bool
each_below p zero = true
each_below p (suc n) = each_below p n && p n

pub each_at : (p : ℕ → Bool) (n k : ℕ) → each_below p n ≡ true → k < n → p k ≡ true
unfolding each_below
each_at p zero k e h = absurd (omega arith)
each_at p (suc n) k e h = by (ltb k n) refl (λ q. each_at p n k both.0 q)
  where
    both : (each_below p n ≡ true) × (p n ≡ true)
    both = and_both (each_below p n) (p n) e

    by : (t : Bool) → ltb k n ≡ t → (k < n → p k ≡ true) → p k ≡ true
    by true q ih = ih (ltb-true k n q)
    by false q ih = let last : k ≡ n = omega (arith, ltb-false k n q) in ap p last ∙ both.1

-- reached in fewer than n steps: the size after some k below n
pub reached-at : (n k s : ℕ) → k < n → s ≡ size_after k → reached_in n s ≡ true
unfolding reached_in
reached-at zero k s h e = absurd (omega arith)
reached-at (suc n) k s h e = by (ltb k n) refl (λ q. reached-at n k s q e)
  where
    by : (t : Bool) → ltb k n ≡ t → (k < n → reached_in n s ≡ true) → reached_in n s || eqb s (size_after n) ≡ true
    by true q ih = or_left (reached_in n s) (eqb s (size_after n)) (ih (ltb-true k n q))
    by false q ih =
        let last : k ≡ n = omega (arith, ltb-false k n q) in
        or_right (reached_in n s) (eqb s (size_after n)) (eq-eqb s (size_after n) (e ∙ ap size_after last))

pub none_more : (k s : ℕ) → reached_in k s ≡ false → eqb s (size_after k) ≡ false → reached_in (suc k) s ≡ false
unfolding reached_in
none_more k s e h = rw (e, h)

-- what holds of the size after each k below n holds of every size that is reached in fewer than n steps
each-reached : (p : ℕ → Bool) (n s : ℕ) → each_below (λ k. p (size_after k)) n ≡ true → reached_in n s ≡ true → p s ≡ true
unfolding each_below reached_in
each-reached p zero s e h = absurd (true≢false (sym h))
each-reached p (suc n) s e h = by (reached_in n s) refl (λ q. each-reached p n s both.0 q)
  where
    both : (each_below (λ k. p (size_after k)) n ≡ true) × (p (size_after n) ≡ true)
    both = and_both (each_below (λ k. p (size_after k)) n) (p (size_after n)) e

    by : (t : Bool) → reached_in n s ≡ t → (reached_in n s ≡ true → p s ≡ true) → p s ≡ true
    by true q ih = ih q
    by false q ih = ap p (eqb-true s (size_after n) (rw q at h)) ∙ both.1

-- what holds of the start and of the sheet's eight sizes holds of every size that fits
pub each_fits : (p : ℕ → Bool) (s : ℕ) → each_below (λ k. p (size_after k)) 9 ≡ true → fits_size s ≡ true → p s ≡ true
unfolding fits_size
each_fits p s e h = each-reached p 9 s e h

pub next_fits : (s : ℕ) → fits_size s ≡ true → fits_size (next_size s) ≡ true
unfolding each_below start_size next_size size_after reached_in fits_size
next_fits s h = each_fits (λ s. fits_size (next_size s)) s refl h

-- each size that growth reaches fits, however many steps it takes
pub fits-reached : (k : ℕ) → fits_size (size_after k) ≡ true
unfolding start_size size_after reached_in fits_size
fits-reached zero = refl
fits-reached (suc k) = next_fits (size_after k) (fits-reached k)

-- the blocks have the sheet's sizes in their order
pub sheet-is : (k : ℕ) → k < 8 → get_or sheet k 0 ≡ size_after (suc k)
unfolding each_below start_size sheet next_size size_after
sheet-is k h = eqb-true (get_or sheet k 0) (size_after (suc k)) (each_at (λ k. eqb (get_or sheet k 0) (size_after (suc k))) 8 k refl h)

-- a state, by what it holds
pub fixed_zero : (g : Growth) (n : ℕ) → g ≡ Fixed n → n < 1 → fits_growth g ≡ false
unfolding fits_growth
fixed_zero g n e h = rw (e, lt-leb 1 n h)

pub fixed-is : (g : Growth) (n : ℕ) → g ≡ Fixed n → 1 ≤ n → fits_growth g ≡ leb n byte_limit
unfolding fits_growth
fixed-is g n e h = rw (e, le-leb 1 n h)

pub doubling-is : (g : Growth) (s : ℕ) → g ≡ Doubling s → fits_growth g ≡ fits_size s
unfolding fits_growth
doubling-is g s e = rw e

-- a start makes a state that fits, and a step leaves one
pub start_fits : fits_growth (Doubling start_size) ≡ true
unfolding fits_growth size_after
start_fits = fits-reached 0

pub grown-fits : (g : Growth) → fits_growth g ≡ true → fits_growth (grown g) ≡ true
unfolding fits_growth
grown-fits (Fixed n) e = e
grown-fits (Doubling s) e = next_fits s e

-- a negated answer of a callee, put to use
pub not-true : (x y : Bool) → x ≡ y → not x ≡ true → y ≡ false
not-true true y e h = absurd (true≢false (sym h))
not-true false y e h = sym e

pub not-false : (x y : Bool) → x ≡ y → not x ≡ false → y ≡ true
not-false true y e h = sym e
not-false false y e h = absurd (true≢false h)

-- a step, by what comes in
pub step-refused : (g : Growth) → fits_growth g ≡ false → step_of g ≡ record { why = Err Fit; growth = g; size = 0 }
unfolding step_of step_why refuse
step-refused g h = rw h

pub step-fixed : (g : Growth) (n : ℕ) → g ≡ Fixed n → fits_growth g ≡ true → step_of g ≡ record { why = accepted; growth = Fixed n; size = n }
unfolding step_of step_why refuse
step-fixed g n e h = rw (h, e)

pub step-doubling : (g : Growth) (s m : ℕ) → g ≡ Doubling s → fits_growth g ≡ true → m ≡ next_size s
    → step_of g ≡ record { why = accepted; growth = Doubling m; size = m }
unfolding step_of step_why refuse
step-doubling g s m e h k = rw (h, e, k)

-- the size that a step answers: the one after s where s is reached, else 0, which no size is
pub size-reached : (s k : ℕ) → k < 9 → s ≡ size_after k → size_after (suc k) ≡ (step_of (Doubling s)).size
unfolding fits_growth fits_size size_after
size-reached s k h e =
    sym (ap (λ (z : Step). z.size) (step-doubling (Doubling s) s (size_after (suc k)) refl (reached-at 9 k s h e) (ap next_size (sym e))))

pub size_none : (s : ℕ) → reached_in 9 s ≡ false → 0 ≡ (step_of (Doubling s)).size
unfolding fits_growth fits_size
size_none s e = sym (ap (λ (z : Step). z.size) (step-refused (Doubling s) e))

pub size-next : (s n : ℕ) → n ≡ (step_of (Doubling s)).size → fits_size s ≡ true → n ≡ next_size s
unfolding fits_growth
size-next s n e h = e ∙ ap (λ (z : Step). z.size) (step-doubling (Doubling s) s (next_size s) refl h refl)

pub size-some : (s n : ℕ) → n ≡ (step_of (Doubling s)).size → not (eqb n 0) ≡ fits_size s
unfolding each_below start_size next_size size_after fits_growth
size-some s n e = by (fits_size s) refl
  where
    by : (t : Bool) → fits_size s ≡ t → not (eqb n 0) ≡ fits_size s
    by true h = rw (size-next s n e h, h) (each_fits (λ s. not (eqb (next_size s) 0)) s refl h)
    by false h =
        let none : n ≡ 0 = e ∙ ap (λ (z : Step). z.size) (step-refused (Doubling s) h) in
        rw (none, h)
