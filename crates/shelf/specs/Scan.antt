-- The first place of a byte in a text, and a part of a text. Assumes nothing.
use Rattle.std.specs.Prelude.{Bool, true, false, List, [], ◌∷◌, ℕ, zero, suc, eqb, take, drop}

-- 0 where the first byte is the one that is looked for, else one more than in the rest
abbrev pub index_after : Bool → ℕ → ℕ
index_after true n = zero
index_after false n = suc n

-- the index of the first b in xs, or the length of xs where there is none
unfoldable pub index_of : ℕ → List ℕ → ℕ
index_of b [] = zero
index_of b (c ∷ xs) = index_after (eqb c b) (index_of b xs)

-- the items of xs from index a to index b
unfoldable pub slice : ℕ → ℕ → List ℕ → List ℕ
slice a b xs = drop a (take b xs)
