-- The walk of compaction over lengths alone: values of these lengths go one after the other to a current block, which is closed first where a value
-- would take it past the maximum. It knows neither rows nor views. Assumes nothing.
use Rattle.std.specs.Prelude.{Bool, true, false, List, [], ◌∷◌, ◌++◌, ℕ, ◌+◌, leb}
use Rattle.basis.specs.Pick.{pick}

-- the lengths of the blocks closed, and of the current one
pub record Cut : Type 0 where
  pub done : List ℕ
  pub fill : ℕ

abbrev pub cut : List ℕ → ℕ → Cut
cut done fill = record { done = done; fill = fill }

-- the current block closed, even an empty one
abbrev pub shut : Cut → Cut
shut c = cut (c.done ++ c.fill ∷ []) 0

-- where a value of n bytes goes: its block's number is the count of those closed, its offset what the block has
unfoldable pub room_for : ℕ → ℕ → Cut → Cut
room_for most n c = pick (leb (c.fill + n) most) c (shut c)

abbrev pub add : ℕ → Cut → Cut
add n c = cut c.done (c.fill + n)

unfoldable pub cut_from : ℕ → List ℕ → Cut → Cut
cut_from most [] c = c
cut_from most (n ∷ ns) c = cut_from most ns (add n (room_for most n c))

unfoldable pub cut_all : ℕ → List ℕ → Cut
cut_all most ns = cut_from most ns (cut [] 0)

-- the place of a value of n bytes after values of the lengths ns
abbrev pub cut_place : ℕ → List ℕ → ℕ → Cut
cut_place most ns n = room_for most n (cut_all most ns)

abbrev pub is_none : List ℕ → Bool
is_none [] = true
is_none (n ∷ ns) = false

-- the blocks' lengths: none where there is no value, else those closed and the current one
unfoldable pub cut_lens : ℕ → List ℕ → List ℕ
cut_lens most ns = pick (is_none ns) [] ((cut_all most ns).done ++ (cut_all most ns).fill ∷ [])
