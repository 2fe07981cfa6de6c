-- Which rows of a column point into a block, and the bound that compaction keeps. Assumes nothing.
use Rattle.std.specs.Prelude.{◌≡◌, Bool, not, ◌&&◌, List, ℕ, zero, suc, ◌+◌, ◌<◌, eqb}
use Rattle.basis.specs.Pick.{pick}
use Rattle.views.specs.View.{length_of, block_of, is_short}
use Rattle.column.specs.declared.Column.{Column}
use Rattle.column.specs.Lent.{Lent, block_at}
use Rattle.column.specs.Meaning.{row_view}

-- a view points into block k
unfoldable pub points : ℕ → List ℕ → Bool
points k v = not (is_short (length_of v)) && eqb (block_of v) k

-- how many of the first n rows do
unfoldable pub pointing : Lent → Column → ℕ → ℕ → ℕ
pointing l c k zero = 0
pointing l c k (suc n) = pointing l c k n + pick (points k (row_view l c n)) 1 0

-- a block longer than the maximum has exactly one row that points into it
pub record Bounded (most : ℕ) (l : Lent) (c : Column) : Type 0 where
  pub single : (k : ℕ) → k < c.blocks → most < (block_at l k).len → pointing l c k c.rows ≡ 1
