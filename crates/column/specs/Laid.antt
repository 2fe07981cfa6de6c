-- Rows as lists, and views and records written one after the other. Assumes nothing.
use Rattle.std.specs.Prelude.{Bool, List, [], ◌∷◌, ◌++◌, ℕ, zero, suc, ◌+◌, ◌*◌, length, set}
use Rattle.std.proofs.Math.Seq.{paste}
use Rattle.column.specs.declared.Block.{Block}
use Rattle.column.specs.declared.Column.{Column}
use Rattle.column.specs.Lent.{Lent, block}
use Rattle.column.specs.Meaning.{row_view, row_valid}

-- what f says of the rows 0 to n - 1
unfoldable pub rows_of : {A : Type 0} → (ℕ → A) → ℕ → List A
rows_of f zero = []
rows_of f (suc n) = rows_of f n ++ f n ∷ []

unfoldable pub views_of : Lent → Column → List (List ℕ)
views_of l c = rows_of (row_view l c) c.rows

unfoldable pub bits_of : Lent → Column → List Bool
bits_of l c = rows_of (row_valid l c) c.rows

-- blocks end to end
unfoldable pub flat : List (List ℕ) → List ℕ
flat [] = []
flat (x ∷ xs) = x ++ flat xs

-- views written from row r on
unfoldable pub put_views : List ℕ → ℕ → List (List ℕ) → List ℕ
put_views views r [] = views
put_views views r (v ∷ vs) = put_views (paste views (16 * r) v 16) (suc r) vs

-- records of blocks that lie end to end from a start, written from block k on
unfoldable pub put_table : List Block → ℕ → ℕ → List (List ℕ) → List Block
put_table table k start [] = table
put_table table k start (x ∷ xs) = put_table (set table k (block start (length x))) (suc k) (start + length x) xs
