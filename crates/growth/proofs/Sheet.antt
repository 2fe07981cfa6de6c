-- The sheet is the doubling: each of its sizes, whether a state fits, and the step's whole answer, for every state; so what a call above makes of them is
-- the same by either. Assumes nothing.
use Rattle.bounds.specs.Refusals.{accepted}
use Prim.Native.Nat.{ℕ, zero, suc, ◌+◌, ◌<◌}
use mathlib.Core.Path.{◌≡◌, refl, sym, ap, ◌∙◌, fun_ext}
use mathlib.Core.Bool.{Bool, true, false}
use native.Mathlib.Nat.{add-suc}
use lib.Dec.{eqb, ltb}
use lib.ListN.{get_or}
use borrow.Author.Tests.{eqb-true, ltb-true}
use Rattle.basis.specs.Pick.{pick}
use Rattle.bounds.specs.Bounds.{byte_limit}
use Rattle.growth.specs.declared.Step.{Step}
use Rattle.growth.specs.declared.Growth.{Growth}
use Rattle.growth.specs.declared.Growth.TheVariants.{Fixed, Doubling}
use Rattle.growth.specs.Growing.{start_size, sheet, next_size, largest_size, size_after, reached_in, fits_size, fits_growth, size_of, grown, step_of}
use Rattle.growth.specs.GrowthLaws.{each_below, each_at, each_fits, fits-reached, step-refused, step-fixed, step-doubling}
use Rattle.growth.specs.Doubling.{start_doubled, doubled, doubled_in, fits_doubled, doubled_size, doubled_growth, doubled_step}

-- the first on the sheet, k = 0, is the start doubled once, and each is twice the one before
pub sheet-doubles : (k : ℕ) → k < 8 → get_or sheet k 0 ≡ start_doubled (suc k)
unfolding each_below start_size sheet start_doubled
sheet-doubles k h = eqb-true (get_or sheet k 0) (start_doubled (suc k)) (each_at (λ k. eqb (get_or sheet k 0) (start_doubled (suc k))) 8 k refl h)

-- the paper's own figures: the first, the eighth, and then constant
pub first-size : size_of (Doubling start_size) ≡ 16384
unfolding start_size next_size
first-size = refl

pub eighth-size : size_after 8 ≡ 2097152
unfolding start_size next_size size_after
eighth-size = refl

pub then-constant : (k : ℕ) → size_after (8 + k) ≡ largest_size
unfolding start_size next_size largest_size size_after
then-constant zero = refl
then-constant (suc k) = rw (add-suc 8 k, then-constant k)

-- a block's size is one that may be fixed, 1 to the byte limit; by the sheet it is above the start
pub size_fits : (g : Growth) → fits_growth g ≡ true → fits_growth (Fixed (size_of g)) ≡ true
unfolding byte_limit each_below start_size next_size size_after fits_growth
size_fits (Fixed n) e = e
size_fits (Doubling s) e = each_fits (λ s. fits_growth (Fixed (next_size s))) s refl e

pub next-above : (k : ℕ) → start_size < next_size (size_after k)
unfolding each_below start_size next_size size_after
next-above k =
    ltb-true start_size (next_size (size_after k)) (each_fits (λ s. ltb start_size (next_size s)) (size_after k) refl (fits-reached k))

-- which sizes fit, and the size after one that does
pub same-sizes : (s : ℕ) → fits_size s ≡ doubled_in 9 s
unfolding start_size next_size size_after reached_in fits_size start_doubled doubled_in
same-sizes s = refl

pub same_next : (s : ℕ) → fits_size s ≡ true → next_size s ≡ doubled s
unfolding each_below start_size next_size size_after start_doubled doubled
same_next s h = eqb-true (next_size s) (doubled s) (each_fits (λ s. eqb (next_size s) (doubled s)) s refl h)

-- whether a state fits, for every state
pub same-fits : (g : Growth) → fits_growth g ≡ fits_doubled g
unfolding fits_growth fits_doubled
same-fits (Fixed n) = refl
same-fits (Doubling s) = same-sizes s

-- the step's whole answer, for every state, refused or not
pub same_step : (g : Growth) → step_of g ≡ doubled_step g
unfolding fits_growth doubled_step
same_step g = by (fits_growth g) refl
  where
    taken : (g : Growth) → fits_growth g ≡ true → step_of g ≡ record { why = accepted; growth = doubled_growth g; size = doubled_size g }
    taken (Fixed n) e = step-fixed (Fixed n) n refl e
    taken (Doubling s) e = step-doubling (Doubling s) s (doubled s) refl e (sym (same_next s e))

    by : (t : Bool) → fits_growth g ≡ t → step_of g ≡ doubled_step g
    by true e = rw (sym (same-fits g) ∙ e) (taken g e)
    by false e = rw (sym (same-fits g) ∙ e) (step-refused g e)

-- What the definitions above take of growth: `a` where the state doesn't fit; where it does, whatever they make of the next size and the state after it.
pub same_taken : {A : Type 0} (g : Growth) (take : ℕ → Growth → A) (a : A)
    → pick (fits_growth g) (take (size_of g) (grown g)) a ≡ pick (fits_doubled g) (take (doubled_size g) (doubled_growth g)) a
unfolding fits_growth
same_taken g take a = by (fits_growth g) refl
  where
    both : (g : Growth) → fits_growth g ≡ true → take (size_of g) (grown g) ≡ take (doubled_size g) (doubled_growth g)
    both (Fixed n) e = refl
    both (Doubling s) e = rw (same_next s e)

    by : (t : Bool) → fits_growth g ≡ t → pick (fits_growth g) (take (size_of g) (grown g)) a ≡ pick (fits_doubled g) (take (doubled_size g) (doubled_growth g)) a
    by true e = rw (e, sym (same-fits g) ∙ e) (both g e)
    by false e = rw (e, sym (same-fits g) ∙ e)

-- What the code above calls, beside the start: whatever it makes of the two functions' answers.
pub same_above : {A : Type 0} (call : (Growth → Bool) → (Growth → Step) → A) → call fits_growth step_of ≡ call fits_doubled doubled_step
same_above call = ap (λ (f : Growth → Bool). call f step_of) (fun_ext same-fits) ∙ ap (call fits_doubled) (fun_ext same_step)
