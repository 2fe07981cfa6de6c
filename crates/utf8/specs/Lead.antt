-- What the code's answer to a lead byte says: the rows of the table that are left. Assumes nothing.
use Rattle.std.specs.Prelude.{List, [], ◌∷◌, ◌≡◌, ℕ, zero, suc, ◌+◌, ◌-◌, ◌≤◌, ◌<◌, Option, None, Some, length, drop}
use Rattle.utf8.specs.declared.Lead.{Lead}
use Rattle.utf8.specs.declared.Lead.TheVariants.{One, Two, Three, Four, Bad}
use Rattle.utf8.specs.Table.{Range, ◌‥◌, walk}

-- a byte that goes on with a sequence, where the row says no narrower range
abbrev pub next : Range
next = 0x80 ‥ 0xBF

unfoldable pub nexts : ℕ → List Range
nexts zero = []
nexts (suc n) = next ∷ nexts n

-- the row that the lead byte of a sequence of two bytes and more leaves of the table, r the second byte's range
unfoldable pub tails_of : ℕ → Range → List (List Range)
tails_of n r = (r ∷ nexts (n - 2)) ∷ []

unfoldable pub tails : Lead → List (List Range)
tails One = [] ∷ []
tails (Two lo hi) = tails_of 2 (lo ‥ hi)
tails (Three lo hi) = tails_of 3 (lo ‥ hi)
tails (Four lo hi) = tails_of 4 (lo ‥ hi)
tails Bad = []

-- n is 0 and none is said; or n is said, and there is room for it
abbrev pub SequenceOf : ℕ → ℕ → Option ℕ → Type 0
SequenceOf n room None = n ≡ 0
SequenceOf n room (Some k) = (k ≡ n) × (0 < k) × (k ≤ room)

-- from `at` to r no ill-formed sequence begins, and r is where a sequence begins or the text ends
pub record Passed (s : List ℕ) (at r : ℕ) : Type 0 where
  pub on : at ≤ r
  pub in-text : r ≤ length s
  pub same : at + walk (drop at s) ≡ r + walk (drop r s)
