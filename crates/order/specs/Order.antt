-- The byte order of two lists, their sameness, and what the answers of a comparison mean. Assumes nothing.
use Rattle.std.specs.Prelude.{◌≡◌, Bool, true, false, List, [], ◌∷◌, eqb, get_or, drop}
use Prim.Native.Nat.{ℕ, ◌+◌, ◌<◌, compare, Ordering}
use Rattle.basis.specs.Pick.{pick}
use Rattle.words.specs.Words.{word_at}
use Rattle.std.proofs.Common as std
use Rattle.std.proofs.Common.{Less, Equal, Greater}

-- the first answer unless it is equality
abbrev pub thenby : Ordering → Ordering → Ordering
thenby Ordering.lt o = Ordering.lt
thenby Ordering.eq o = o
thenby Ordering.gt o = Ordering.gt

-- the byte order: the first byte that differs decides, and a list is below what it begins
unfoldable pub cmp : List ℕ → List ℕ → Ordering
cmp [] [] = Ordering.eq
cmp [] (b ∷ y) = Ordering.lt
cmp (a ∷ x) [] = Ordering.gt
cmp (a ∷ x) (b ∷ y) = thenby (compare a b) (cmp x y)

-- whether two lists are the same
unfoldable pub same : List ℕ → List ℕ → Bool
same [] [] = true
same [] (b ∷ y) = false
same (a ∷ x) [] = false
same (a ∷ x) (b ∷ y) = pick (eqb a b) (same x y) false

-- two short views: their twelve bytes, then their lengths
unfoldable pub short_order : List ℕ → List ℕ → Ordering
short_order v w = thenby (cmp (drop 4 v) (drop 4 w)) (compare (word_at v 0 4) (word_at w 0 4))

-- the answer of a comparison in the code
abbrev pub Order : Type 0
Order = std.Ordering

-- what each answer means
abbrev pub ordering : Order → Ordering
ordering Less = Ordering.lt
ordering Equal = Ordering.eq
ordering Greater = Ordering.gt

-- the n bytes from i on are equal
abbrev pub Agree : List ℕ → List ℕ → ℕ → ℕ → Type 0
Agree a b i n = (k : ℕ) → k < n → get_or a (i + k) 0 ≡ get_or b (i + k) 0
