-- Rows compared by their views' bytes compare as the values that they show. Assumes nothing.
use Rattle.std.specs.Prelude.{◌≡◌, refl, Bool, true, false, ◌&&◌, List, [], ◌∷◌, length}
use Prim.Native.Nat.compare
use Prim.Native.Nat.{ℕ, zero, suc, ◌≤◌, compare, Ordering}
use Rattle.std.proofs.Common.{le_of_suc-le-suc, not-suc-le-zero, leb-true}
use Rattle.basis.specs.Pick.{pick}
use Rattle.words.specs.Words.{pad}
use Rattle.order.specs.Order.{thenby, cmp}
use Rattle.order.proofs.OrderLaws.{cmp-same}
use Rattle.views.specs.View.{short_most, is_short, length_of, prefix_of, body_of}
use Rattle.column.specs.Meaning.{shown}
use Rattle.showing.specs.Row.{Row}

-- zeros are below whatever is as long
pad-low : (n : ℕ) (y : List ℕ) → thenby (cmp (pad n []) (pad n y)) Ordering.lt ≡ Ordering.lt
unfolding cmp pad
pad-low zero y = refl
pad-low (suc n) [] = pad-low n []
pad-low (suc n) (zero ∷ y) = pad-low n y
pad-low (suc n) (suc b ∷ y) = rw compare.zero-suc

pad-high : (n : ℕ) (y : List ℕ) → thenby (cmp (pad n y) (pad n [])) Ordering.gt ≡ Ordering.gt
unfolding cmp pad
pad-high zero y = refl
pad-high (suc n) [] = pad-high n []
pad-high (suc n) (zero ∷ y) = pad-high n y
pad-high (suc n) (suc b ∷ y) = rw compare.suc-zero

-- answers joined: the first one decides alike on both sides
join : (c o p : Ordering) → thenby o p ≡ p → thenby (thenby c o) (thenby c p) ≡ thenby c p
join Ordering.lt o p e = refl
join Ordering.eq o p e = e
join Ordering.gt o p e = refl

assoc : (c o p q : Ordering) → thenby o p ≡ q → thenby (thenby c o) p ≡ thenby c q
assoc Ordering.lt o p q e = refl
assoc Ordering.eq o p q e = e
assoc Ordering.gt o p q e = refl

-- a prefix decides only what the whole values decide
pub prefix-first : (n : ℕ) (x y : List ℕ) → thenby (cmp (pad n x) (pad n y)) (cmp x y) ≡ cmp x y
unfolding cmp pad
prefix-first zero x y = refl
prefix-first (suc n) [] [] = prefix-first n [] []
prefix-first (suc n) [] (b ∷ y) = pad-low (suc n) (b ∷ y)
prefix-first (suc n) (a ∷ x) [] = pad-high (suc n) (a ∷ x)
prefix-first (suc n) (a ∷ x) (b ∷ y) = join (compare a b) (cmp (pad n x) (pad n y)) (cmp x y) (prefix-first n x y)

-- two values no longer than the padding: padded bytes, then lengths
pub short-first : (n : ℕ) (x y : List ℕ) → length x ≤ n → length y ≤ n → thenby (cmp (pad n x) (pad n y)) (compare (length x) (length y)) ≡ cmp x y
unfolding cmp pad
short-first n [] [] h k = rw (cmp-same (pad n []))
short-first n [] (b ∷ y) h k = rw compare.zero-suc (pad-low n (b ∷ y))
short-first n (a ∷ x) [] h k = rw compare.suc-zero (pad-high n (a ∷ x))
short-first zero (a ∷ x) (b ∷ y) h k = absurd (not-suc-le-zero h)
short-first (suc n) (a ∷ x) (b ∷ y) h k =
    rw compare.suc-suc
    (assoc (compare a b) (cmp (pad n x) (pad n y)) (compare (length x) (length y)) (cmp x y)
    (short-first n x y (le_of_suc-le-suc h) (le_of_suc-le-suc k)))

-- two short values by twelve bytes and lengths, others by four bytes and whole values: the byte order of what is shown
pub rows-compare : {bs : List (List ℕ)} {v x : List ℕ} {cs : List (List ℕ)} {w y : List ℕ} → Row bs v x → Row cs w y
    → pick (is_short (length_of v) && is_short (length_of w))
    (thenby (cmp (body_of v) (body_of w)) (compare (length_of v) (length_of w)))
    (thenby (cmp (prefix_of v) (prefix_of w)) (cmp (shown bs v) (shown cs w)))
    ≡ cmp x y
rows-compare {bs} {v} {x} {cs} {w} {y} s t =
    rw (s.len, t.len, s.val, t.val, s.pre, t.pre) (by (is_short (length x)) (is_short (length y)) refl refl)
  where
    by : (a b : Bool) → is_short (length x) ≡ a → is_short (length y) ≡ b
        → pick (a && b) (thenby (cmp (body_of v) (body_of w)) (compare (length x) (length y))) (thenby (cmp (pad 4 x) (pad 4 y)) (cmp x y)) ≡ cmp x y
    by true true e f =
        rw (s.body (leb-true (length x) short_most e), t.body (leb-true (length y) short_most f))
        (short-first short_most x y (leb-true (length x) short_most e) (leb-true (length y) short_most f))
    by true false e f = prefix-first 4 x y
    by false true e f = prefix-first 4 x y
    by false false e f = prefix-first 4 x y
