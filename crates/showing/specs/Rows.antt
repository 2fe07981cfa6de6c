-- Rows that show values, and that go on showing them as blocks grow: what that means. Assumes nothing.
use Rattle.std.specs.Prelude.{List, [], ◌∷◌, ◌++◌, ℕ}
use Rattle.showing.specs.Row.{Row}

-- the blocks cs are the blocks bs, each perhaps longer, and perhaps more
pub data Ext : List (List ℕ) → List (List ℕ) → Type 0 where
  more : {cs : List (List ℕ)} → Ext [] cs
  keep : {b : List ℕ} {bs cs : List (List ℕ)} → Ext bs cs → Ext (b ∷ bs) (b ∷ cs)
  grow : {b : List ℕ} {bs cs : List (List ℕ)} (m : List ℕ) → Ext bs cs → Ext (b ∷ bs) ((b ++ m) ∷ cs)

-- views and the values that they show, in step
pub data Rows (bs : List (List ℕ)) : List (List ℕ) → List (List ℕ) → Type 0 where
  rnil : Rows bs [] []
  rcons : {v x : List ℕ} {vs xs : List (List ℕ)} → Row bs v x → Rows bs vs xs → Rows bs (v ∷ vs) (x ∷ xs)
