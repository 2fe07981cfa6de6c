-- The earliest stored row with given bytes: no hash, no table.
-- Assumes nothing.
use Rattle.std.specs.Prelude.{cond, List, [], ◌∷◌, ℕ}
use Rattle.std.proofs.Math.Option.{Option, none, some}
use Rattle.order.specs.Order.{same}

pub data In : ℕ → List ℕ → Type 0 where
  here : {r : ℕ} {rs : List ℕ} → In r (r ∷ rs)
  there : {r s : ℕ} {rs : List ℕ} → In r rs → In r (s ∷ rs)

-- the first of the rows, in the order in which they were stored, that shows x
abbrev pub earliest : (ℕ → List ℕ) → List ℕ → List ℕ → Option ℕ
earliest val x [] = none
earliest val x (r ∷ rs) = cond (same (val r) x) (some r) (earliest val x rs)
