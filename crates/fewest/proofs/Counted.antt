-- Each block of a lawful cut takes the walk of compaction over its lengths to one more block that isn't empty at most, so that no such cut has fewer. Assumes
-- nothing.
use mathlib.Core.Path.{◌≡◌, refl, ap, ◌∙◌}
use mathlib.Core.Bool.{Bool, true, false, ◌||◌}
use mathlib.Core.List.{List, [], ◌∷◌, ◌++◌, map, map-append, flatten}
use mathlib.Core.Logic.{by_cases}
use Prim.Native.Nat.{ℕ, suc, ◌+◌, ◌≤◌, ◌<◌}
use native.Mathlib.Decide.{ℕ_discrete}
use native.Mathlib.Omega.{arith}
use borrow.Author.Tests.{leb-true, eqb-true, lt-ltb}
use lib.Dec.{leb, ltb, eqb}
use lib.ListN.{length, get_or, length-append}
use Rattle.basis.specs.Pick.{pick}
use Rattle.column.specs.Laid.{flat}
use Rattle.laying.specs.Written.{total}
use Rattle.compaction.specs.Cut.{Cut, cut, shut, add, is_none, room_for, cut_from, cut_all, cut_lens}
use Rattle.compaction.proofs.Cases.{never-closed}
use Rattle.fewest.specs.Lawful.{those, is_lawful, Lawful}
use Rattle.fewest.proofs.Those.{those-append}

-- ---- how many aren't empty

abbrev one : ℕ → ℕ
one n = pick (ltb 0 n) 1 0

one-most : (n : ℕ) → one n ≤ 1
one-most n = by (ltb 0 n)
  where
    by : (t : Bool) → pick t 1 0 ≤ 1
    by true = omega arith
    by false = omega arith

abbrev pub filled_in : List ℕ → ℕ
filled_in ns = length (those (ltb 0) ns)

filled-append : (ms ns : List ℕ) → filled_in (ms ++ ns) ≡ filled_in ms + filled_in ns
filled-append ms ns = ap length (those-append (ltb 0) ms ns) ∙ length-append (those (ltb 0) ms) (those (ltb 0) ns)

filled-one : (n : ℕ) → filled_in (n ∷ []) ≡ one n
unfolding those
filled-one n = by (ltb 0 n)
  where
    by : (t : Bool) → length (pick t (n ∷ []) []) ≡ pick t 1 0
    by true = refl
    by false = refl

-- ---- of a walk, its current block too

abbrev filled_of : Cut → ℕ
filled_of c = filled_in c.done + one c.fill

filled-all : (c : Cut) → filled_in (c.done ++ c.fill ∷ []) ≡ filled_of c
filled-all c = rw (filled-append c.done (c.fill ∷ []), filled-one c.fill)

-- the current block closed, and another begun
filled-shut : (c : Cut) (n : ℕ) → filled_of (cut (c.done ++ c.fill ∷ []) n) ≤ filled_of c + 1
filled-shut c n = rw (filled-all c) (omega (arith, one-most n))

-- the current block longer
filled-longer : (c : Cut) (n : ℕ) → filled_of (cut c.done n) ≤ filled_of c + 1
filled-longer c n = omega (arith, one-most n)

filled-same : (c : Cut) (n : ℕ) → 0 < c.fill → filled_of (cut c.done (c.fill + n)) ≡ filled_of c
filled-same c n h = rw (lt-ltb 0 c.fill (omega arith), lt-ltb 0 (c.fill + n) (omega arith))

-- ---- a lawful block

single_more : (most n : ℕ) (c : Cut) → filled_of (add n (room_for most n c)) ≤ filled_of c + 1
unfolding room_for
single_more most n c = by (leb (c.fill + n) most)
  where
    by : (t : Bool) → filled_of (add n (pick t c (shut c))) ≤ filled_of c + 1
    by true = filled-longer c (c.fill + n)
    by false = filled-shut c (0 + n)

-- within the maximum it closes at most one block: after that it has a block of its own
within_more : (most : ℕ) (ns : List ℕ) (c : Cut) → total ns ≤ most → filled_of (cut_from most ns c) ≤ filled_of c + 1
unfolding cut_from total room_for
within_more most [] c h = omega arith
within_more most (n ∷ ns) c h =
    by_cases (ℕ_discrete c.fill 0)
    (λ e. rw (never-closed most (n ∷ ns) c (omega arith)) (filled-longer c (c.fill + total (n ∷ ns))))
    (λ d. by (leb (c.fill + n) most) (within_more most ns (cut c.done (c.fill + n)) (omega arith)) (omega arith))
  where
    by : (t : Bool) → filled_of (cut_from most ns (cut c.done (c.fill + n))) ≤ filled_of (cut c.done (c.fill + n)) + 1 → 0 < c.fill
        → filled_of (cut_from most ns (add n (pick t c (shut c)))) ≤ filled_of c + 1
    by true more d = rw (filled-same c n d) at more
    by false more d = rw (never-closed most ns (cut (c.done ++ c.fill ∷ []) (0 + n)) (omega arith)) (filled-shut c (0 + n + total ns))

flat-lengths : (xs : List (List ℕ)) → length (flat xs) ≡ total (map length xs)
unfolding flat total
flat-lengths [] = refl
flat-lengths (x ∷ xs) = rw (length-append x (flat xs), flat-lengths xs)

lawful-more : (most : ℕ) (b : List (List ℕ)) (c : Cut) → is_lawful most b ≡ true → filled_of (cut_from most (map length b) c) ≤ filled_of c + 1
unfolding cut_from
lawful-more most b c h = by (leb (length (flat b)) most) refl h
  where
    alone : (b : List (List ℕ)) → length b ≡ 1 → filled_of (cut_from most (map length b) c) ≤ filled_of c + 1
    alone [] e = absurd (omega arith)
    alone (x ∷ []) e = single_more most (length x) c
    alone (x ∷ y ∷ b) e = absurd (omega arith)

    by : (t : Bool) → leb (length (flat b)) most ≡ t → (t || eqb (length b) 1) ≡ true → filled_of (cut_from most (map length b) c) ≤ filled_of c + 1
    by true e h = within_more most (map length b) c (omega (arith, flat-lengths b, leb-true (length (flat b)) most e))
    by false e h = alone b (eqb-true (length b) 1 h)

-- ---- a lawful cut

from-append : (most : ℕ) (ms ns : List ℕ) (c : Cut) → cut_from most (ms ++ ns) c ≡ cut_from most ns (cut_from most ms c)
unfolding cut_from
from-append most [] ns c = refl
from-append most (m ∷ ms) ns c = from-append most ms ns (add m (room_for most m c))

each_more : (most : ℕ) (bs : List (List (List ℕ))) → ((k : ℕ) → k < length bs → is_lawful most (get_or bs k []) ≡ true) → (c : Cut)
    → filled_of (cut_from most (map length (flatten bs)) c) ≤ filled_of c + length bs
unfolding flatten cut_from
each_more most [] h c = omega arith
each_more most (b ∷ bs) h c =
    rw (map-append length b (flatten bs), from-append most (map length b) (map length (flatten bs)) c)
    (omega (arith, each_more most bs (λ k j. h (suc k) (omega arith)) (cut_from most (map length b) c), lawful-more most b c (h 0 (omega arith))))

pub lawful-fewest : (most : ℕ) (xs : List (List ℕ)) (bs : List (List (List ℕ))) → Lawful most xs bs → filled_in (cut_lens most (map length xs)) ≤ length bs
unfolding cut_lens cut_all those
lawful-fewest most xs bs w =
    let e : flatten bs ≡ xs = w.whole in
    rw (← e) (by (is_none (map length (flatten bs))) (cut_from most (map length (flatten bs)) (cut [] 0)) (each_more most bs w.each (cut [] 0)))
  where
    by : (t : Bool) (c : Cut) → filled_of c ≤ 0 + length bs → filled_in (pick t [] (c.done ++ c.fill ∷ [])) ≤ length bs
    by true c h = omega arith
    by false c h = rw (filled-all c) (omega arith)
