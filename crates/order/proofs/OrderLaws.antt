-- Laws of the byte order and of sameness, for those who compare. Assumes nothing.
use Rattle.std.specs.Prelude.{◌≡◌, ◌≢◌, refl, Bool, true, false, MatchBool, List, [], ◌∷◌, eqb}
use Rattle.std.proofs.Common.{sym, ap, ◌∙◌, arith, eq-eqb, eqb-true}
use Prim.Native.Nat.compare
use Prim.Native.Nat.{ℕ, zero, suc, ◌<◌, compare, Ordering}
use Rattle.std.specs.Ordering.{MatchOrdering, nat_cmp, ordering_then}
use Rattle.std.specs.Cmp.Lexicographic.{slice_cmp}
use Rattle.std.proofs.lemmas.Cmp.{ranked}
use Rattle.basis.specs.Pick.{pick}
use Rattle.order.specs.Order.{Order, thenby, cmp, same, ordering}
use Rattle.std.proofs.Common.{Less, Equal, Greater}

-- ---- numbers

pub compare-lt : (x y : ℕ) → x < y → compare x y ≡ Ordering.lt
compare-lt x zero h = absurd (omega arith)
compare-lt zero (suc y) h = compare.zero-suc y
compare-lt (suc x) (suc y) h = compare.suc-suc x y ∙ compare-lt x y (omega arith)

pub compare-gt : (x y : ℕ) → y < x → compare x y ≡ Ordering.gt
compare-gt zero y h = absurd (omega arith)
compare-gt (suc x) zero h = compare.suc-zero x
compare-gt (suc x) (suc y) h = compare.suc-suc x y ∙ compare-gt x y (omega arith)

pub compare_same : (x : ℕ) → compare x x ≡ Ordering.eq
compare_same zero = compare.zero-zero
compare_same (suc x) = compare.suc-suc x x ∙ compare_same x

pub compare-eq : (x y : ℕ) → x ≡ y → compare x y ≡ Ordering.eq
compare-eq x y e = rw e (compare_same y)

-- what std's answer says of two numbers
pub compare-ranked : (x y : ℕ) (o : Order) → MatchOrdering o (x < y) (x ≡ y) (y < x) → ordering o ≡ compare x y
compare-ranked x y Less h = sym (compare-lt x y h)
compare-ranked x y Equal h = sym (compare-eq x y h)
compare-ranked x y Greater h = sym (compare-gt x y h)

-- below, equal or above
pub data Tri (x y : ℕ) : Type 0 where
  below : x < y → Tri x y
  level : x ≡ y → Tri x y
  above : y < x → Tri x y

pub tri : (x y : ℕ) → Tri x y
tri zero zero = level refl
tri zero (suc y) = below (omega arith)
tri (suc x) zero = above (omega arith)
tri (suc x) (suc y) = up (tri x y)
  where
    up : Tri x y → Tri (suc x) (suc y)
    up (below h) = below (omega arith)
    up (level h) = level (ap suc h)
    up (above h) = above (omega arith)

-- ---- lists

pub cmp-same : (x : List ℕ) → cmp x x ≡ Ordering.eq
unfolding cmp
cmp-same [] = refl
cmp-same (a ∷ x) = rw (compare_same a, cmp-same x)

-- only the same list is equal, and turned round the order turns (end theorems: nothing cites them)
pub cmp-equal : (x y : List ℕ) → cmp x y ≡ Ordering.eq → x ≡ y
unfolding cmp
cmp-equal [] [] e = refl
cmp-equal [] (b ∷ y) e = let z : ◌≡◌ {A = ℕ} 0 1 = cc in absurd (omega arith)
cmp-equal (a ∷ x) [] e = let z : ◌≡◌ {A = ℕ} 0 1 = cc in absurd (omega arith)
cmp-equal (a ∷ x) (b ∷ y) e = by (tri a b) e (cmp-equal x y)
  where
    by : Tri a b → thenby (compare a b) (cmp x y) ≡ Ordering.eq → (cmp x y ≡ Ordering.eq → x ≡ y) → (a ∷ x) ≡ (b ∷ y)
    by (below h) e more = let z : Ordering.lt ≡ Ordering.eq = rw (compare-lt a b h) at e in let n : ◌≡◌ {A = ℕ} 0 1 = cc in absurd (omega arith)
    by (above h) e more = let z : Ordering.gt ≡ Ordering.eq = rw (compare-gt a b h) at e in let n : ◌≡◌ {A = ℕ} 0 1 = cc in absurd (omega arith)
    by (level h) e more = let tails : x ≡ y = more (rw (compare-eq a b h) at e) in rw (h, tails)

-- turned round
abbrev pub flip : Ordering → Ordering
flip Ordering.lt = Ordering.gt
flip Ordering.eq = Ordering.eq
flip Ordering.gt = Ordering.lt

pub cmp-flip : (x y : List ℕ) → cmp y x ≡ flip (cmp x y)
unfolding cmp
cmp-flip [] [] = refl
cmp-flip [] (b ∷ y) = refl
cmp-flip (a ∷ x) [] = refl
cmp-flip (a ∷ x) (b ∷ y) = by (tri a b) (cmp-flip x y)
  where
    by : Tri a b → cmp y x ≡ flip (cmp x y) → thenby (compare b a) (cmp y x) ≡ flip (thenby (compare a b) (cmp x y))
    by (below h) more = rw (compare-lt a b h, compare-gt b a h)
    by (above h) more = rw (compare-gt a b h, compare-lt b a h)
    by (level h) more = rw (compare-eq a b h, compare-eq b a (sym h)) more

-- std's order of two lists, and one answer after the other
after : (o p : Order) → ordering (ordering_then o p) ≡ thenby (ordering o) (ordering p)
after Less p = refl
after Equal p = refl
after Greater p = refl

pub ordering-slice_cmp : (x y : List ℕ) → ordering (slice_cmp nat_cmp x y) ≡ cmp x y
unfolding cmp
ordering-slice_cmp [] [] = refl
ordering-slice_cmp [] (b ∷ y) = refl
ordering-slice_cmp (a ∷ x) [] = refl
ordering-slice_cmp (a ∷ x) (b ∷ y) =
    let one : ordering (nat_cmp a b) ≡ compare a b = compare-ranked a b (nat_cmp a b) (ranked a b (nat_cmp a b) refl) in
    rw (after (nat_cmp a b) (slice_cmp nat_cmp x y), one, ordering-slice_cmp x y)

-- ---- sameness

pub same_self : (x : List ℕ) → same x x ≡ true
unfolding same
same_self [] = refl
same_self (a ∷ x) = rw (eq-eqb a a refl) (same_self x)

pub same-yes : (x y : List ℕ) → x ≡ y → same x y ≡ true
same-yes x y e = rw e (same_self y)

pub same_true : (x y : List ℕ) → same x y ≡ true → x ≡ y
unfolding same
same_true [] [] e = refl
same_true [] (b ∷ y) e = let z : ◌≡◌ {A = ℕ} 0 1 = cc in absurd (omega arith)
same_true (a ∷ x) [] e = let z : ◌≡◌ {A = ℕ} 0 1 = cc in absurd (omega arith)
same_true (a ∷ x) (b ∷ y) e = by (eqb a b) refl e (same_true x y)
  where
    by : (t : Bool) → eqb a b ≡ t → pick t (same x y) false ≡ true → (same x y ≡ true → x ≡ y) → (a ∷ x) ≡ (b ∷ y)
    by true h e more = rw (eqb-true a b h, more e)
    by false h e more = let z : ◌≡◌ {A = ℕ} 0 1 = cc in absurd (omega arith)

pub same-no : (x y : List ℕ) → (x ≡ y → ⊥) → same x y ≡ false
same-no x y n = by (same x y) refl
  where
    by : (t : Bool) → same x y ≡ t → t ≡ false
    by true e = absurd (n (same_true x y e))
    by false e = refl

-- a test that says just whether they are the same
pub same-is : (x y : List ℕ) (t : Bool) → (t ≡ true → x ≡ y) → (x ≡ y → t ≡ true) → t ≡ same x y
same-is x y true f g = sym (same-yes x y (f refl))
same-is x y false f g = sym (same-no x y (λ e. let z : false ≡ true = g e in let n : ◌≡◌ {A = ℕ} 0 1 = cc in omega arith))

-- ---- answers

-- .. as what std's test of two lists says
pub same-told : (x y : List ℕ) (t : Bool) → MatchBool t (x ≡ y) (x ≢ y) → t ≡ same x y
same-told x y true h = sym (same-yes x y h)
same-told x y false h = sym (same-no x y h)

-- one meaning, one answer
pub ordering-one : (a b : Order) → ordering a ≡ ordering b → a ≡ b
ordering-one Less Less e = refl
ordering-one Less Equal e = let z : ◌≡◌ {A = ℕ} 0 1 = cc in absurd (omega arith)
ordering-one Less Greater e = let z : ◌≡◌ {A = ℕ} 0 1 = cc in absurd (omega arith)
ordering-one Equal Less e = let z : ◌≡◌ {A = ℕ} 0 1 = cc in absurd (omega arith)
ordering-one Equal Equal e = refl
ordering-one Equal Greater e = let z : ◌≡◌ {A = ℕ} 0 1 = cc in absurd (omega arith)
ordering-one Greater Less e = let z : ◌≡◌ {A = ℕ} 0 1 = cc in absurd (omega arith)
ordering-one Greater Equal e = let z : ◌≡◌ {A = ℕ} 0 1 = cc in absurd (omega arith)
ordering-one Greater Greater e = refl
