-- The table of merge targets: entry 0 is an empty place, entry r + 1 names row r. A search from a place. What a table that was left by earlier calls holds.
-- Assumes nothing.
use Rattle.std.specs.Prelude.{◌≡◌, Bool, true, false, List, [], ◌∷◌, ℕ, zero, suc, ◌%◌, ◌≤◌, ◌<◌, eqb, length, get_or, set}
use Rattle.merging.specs.declared.Found.{Found}
use Rattle.merging.specs.declared.Found.TheVariants.{Row, Free, Full}
use Rattle.merging.specs.Earliest.{In}

abbrev pub after_if : ℕ → Bool → ℕ
after_if p true = 0
after_if p false = suc p

-- the place after p, in a circle of n
unfoldable pub after : ℕ → ℕ → ℕ
after n p = after_if p (eqb (suc p) n)

abbrev pub on_hit : ℕ → Bool → Found → Found
on_hit r true f = Row r
on_hit r false f = f

-- what place p with this entry says: nothing there, the row that is looked for, or another row
abbrev pub on_entry : (ℕ → Bool) → ℕ → ℕ → Found → Found
on_entry hit p zero f = Free p
on_entry hit p (suc r) f = on_hit r (hit r) f

-- at most k places from p on
unfoldable pub seek : List ℕ → (ℕ → Bool) → ℕ → ℕ → Found
seek t hit p zero = Full
seek t hit p (suc k) = on_entry hit p (get_or t p 0) (seek t hit (after (length t) p) k)

-- every place once, from the place of a hash
unfoldable pub search_from : List ℕ → (ℕ → Bool) → ℕ → Found
search_from t hit h = seek t hit (h % length t) (length t)

-- whether a search ended at a row, and the row
abbrev pub is_row : Found → Bool
is_row (Row r) = true
is_row (Free p) = false
is_row Full = false

abbrev pub row_of : Found → ℕ
row_of (Row r) = r
row_of (Free p) = 0
row_of Full = 0

-- an entry written at the place that a search ended at, if it ended at one
abbrev pub entered : Found → ℕ → List ℕ → List ℕ
entered (Row r) e t = t
entered (Free p) e t = set t p e
entered Full e t = t

-- how many places are not empty
unfoldable pub filled : List ℕ → ℕ
filled [] = 0
filled (zero ∷ t) = filled t
filled (suc e ∷ t) = suc (filled t)

-- The invariant. h: any function of bytes. val: what each row shows. mg: the lengths that merge. memo: the rows that value calls stored, rows in all.
pub record Holds (h : List ℕ → ℕ) (mg : ℕ → Bool) (val : ℕ → List ℕ) (t : List ℕ) (memo : List ℕ) (rows : ℕ) : Type 0 where
  -- an entry names a stored row
  pub named : (p r : ℕ) → get_or t p 0 ≡ suc r → In r memo
  -- each stored row that merges is found, by its number, from the place of its bytes
  pub placed : (r : ℕ) → In r memo → mg (length (val r)) ≡ true → search_from t (eqb r) (h (val r)) ≡ Row r
  -- stored rows that merge have different bytes
  pub apart : (r s : ℕ) → In r memo → In s memo → mg (length (val r)) ≡ true → val r ≡ val s → r ≡ s
  -- no more places are taken than there are rows
  pub sparse : filled t ≤ rows
  -- stored rows are rows
  pub inside : (r : ℕ) → In r memo → r < rows
