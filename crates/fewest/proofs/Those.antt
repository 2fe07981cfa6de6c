-- Those of a list that pass a test: one more, as many, and what holds of each. Assumes nothing.
use mathlib.Core.Path.{◌≡◌, refl, ap}
use mathlib.Core.Bool.{Bool, true, false}
use mathlib.Core.List.{List, [], ◌∷◌, ◌++◌, map, flatten}
use Prim.Native.Nat.{ℕ, zero, suc, ◌<◌}
use native.Mathlib.Omega.{arith}
use borrow.Author.Tests.{ltb-false}
use lib.Dec.{ltb}
use lib.ListN.{length, get_or}
use Rattle.basis.specs.Pick.{pick}
use Rattle.fewest.specs.Lawful.{those}

pub those-append : {A : Type 0} (p : A → Bool) (xs ys : List A) → those p (xs ++ ys) ≡ those p xs ++ those p ys
unfolding those
those-append p [] ys = refl
those-append p (x ∷ xs) ys = by (p x) (those-append p xs ys)
  where
    by : (t : Bool) → those p (xs ++ ys) ≡ those p xs ++ those p ys
        → pick t (x ∷ those p (xs ++ ys)) (those p (xs ++ ys)) ≡ pick t (x ∷ those p xs) (those p xs) ++ those p ys
    by true e = ap (λ (zs : List _). x ∷ zs) e
    by false e = e

-- as many pass a test of f as of what f makes of them
pub those-map : {A B : Type 0} (p : B → Bool) (f : A → B) (xs : List A) → length (those (λ x. p (f x)) xs) ≡ length (those p (map f xs))
unfolding those
those-map p f [] = refl
those-map p f (x ∷ xs) = by (p (f x)) (those-map p f xs)
  where
    by : (t : Bool) → length (those (λ x. p (f x)) xs) ≡ length (those p (map f xs))
        → length (pick t (x ∷ those (λ x. p (f x)) xs) (those (λ x. p (f x)) xs)) ≡ length (pick t (f x ∷ those p (map f xs)) (those p (map f xs)))
    by true e = ap suc e
    by false e = e

module _ {A : Type 0} (z : A) where
  -- what holds of each of a list holds of those
  pub those-each : (P : A → Type 0) (p : A → Bool) (xs : List A) → ((k : ℕ) → k < length xs → P (get_or xs k z))
      → (k : ℕ) → k < length (those p xs) → P (get_or (those p xs) k z)
  unfolding those
  those-each P p [] h k l = absurd (omega arith)
  those-each P p (x ∷ xs) h k l = by (p x) (those-each P p xs (λ j i. h (suc j) (omega arith))) k l
    where
      by : (t : Bool) → ((k : ℕ) → k < length (those p xs) → P (get_or (those p xs) k z))
          → (k : ℕ) → k < length (pick t (x ∷ those p xs) (those p xs)) → P (get_or (pick t (x ∷ those p xs) (those p xs)) k z)
      by true i zero l = h 0 (omega arith)
      by true i (suc k) l = i k (omega arith)
      by false i k l = i k l

  -- by a test that answers the same of each
  pub those-same : (p q : A → Bool) (xs : List A) → ((k : ℕ) → k < length xs → p (get_or xs k z) ≡ q (get_or xs k z)) → those p xs ≡ those q xs
  unfolding those
  those-same p q [] h = refl
  those-same p q (x ∷ xs) h = rw (h 0 (omega arith), those-same p q xs (λ k l. h (suc k) (omega arith)))

-- what has no values adds none
pub those-flatten : {A : Type 0} (bs : List (List A)) → flatten (those (λ b. ltb 0 (length b)) bs) ≡ flatten bs
unfolding those flatten
those-flatten [] = refl
those-flatten (b ∷ bs) = by b (ltb 0 (length b)) refl (those-flatten bs)
  where
    by : (b : List _) (t : Bool) → ltb 0 (length b) ≡ t → flatten (those (λ b. ltb 0 (length b)) bs) ≡ flatten bs
        → flatten (pick t (b ∷ those (λ b. ltb 0 (length b)) bs) (those (λ b. ltb 0 (length b)) bs)) ≡ b ++ flatten bs
    by b true e i = rw i
    by [] false e i = i
    by (x ∷ b) false e i = absurd (omega (arith, ltb-false 0 (length (x ∷ b)) e))
