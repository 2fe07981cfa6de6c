-- The lawful ways to cut a column's long rows into blocks: in row order, each block within the maximum or of a single row. Nothing here knows how compaction
-- cuts. Assumes nothing.
use Rattle.std.specs.Prelude.{◌≡◌, Bool, true, not, ◌||◌, ℕ, ◌<◌, leb, eqb, length, get_or}
use mathlib.Core.List.{List, [], ◌∷◌, flatten}
use Rattle.basis.specs.Pick.{pick}
use Rattle.views.specs.View.{is_short}
use Rattle.column.specs.declared.Column.{Column}
use Rattle.column.specs.Lent.{Lent}
use Rattle.column.specs.Meaning.{shown_at}
use Rattle.column.specs.Laid.{rows_of, flat}

-- those of a list that pass a test, in their order
unfoldable pub those : {A : Type 0} → (A → Bool) → List A → List A
those p [] = []
those p (x ∷ xs) = pick (p x) (x ∷ those p xs) (those p xs)

-- what the long rows of a column show, null ones too, in row order
abbrev pub long_rows : Lent → Column → List (List ℕ)
long_rows l c = those (λ x. not (is_short (length x))) (rows_of (shown_at l c) c.rows)

-- a block of these values is within the maximum, or holds a single one
abbrev pub is_lawful : ℕ → List (List ℕ) → Bool
is_lawful most b = leb (length (flat b)) most || eqb (length b) 1

-- values cut, in their order, into consecutive blocks, each of them lawful
pub record Lawful (most : ℕ) (xs : List (List ℕ)) (bs : List (List (List ℕ))) : Type 0 where
  pub whole : flatten bs ≡ xs
  pub each : (k : ℕ) → k < length bs → is_lawful most (get_or bs k []) ≡ true
