-- What the leaves over rows of columns ask of the buffers: the rows and the blocks are there, and the rows' views are reachable.
-- Assumes nothing.
use Rattle.std.specs.Prelude.{◌≡◌, true, List, ℕ, ◌+◌, ◌*◌, ◌≤◌, ◌<◌, length}
use Rattle.bounds.specs.Bounds.{row_limit}
use Rattle.views.specs.View.{view_size, view_at}
use Rattle.column.specs.declared.Column.{Column}
use Rattle.column.specs.Lent.{Lent, fits}
use Rattle.column.specs.Room.{bare, InRoom}
use Rattle.column.specs.Truth.{reachable, reachable_at}

-- the view of one row
pub record ViewReadable (views bytes starts lens : List ℕ) (blocks at : ℕ) : Type 0 where
  pub room : InRoom views starts lens blocks at
  pub reach : reachable (bare views bytes starts lens) blocks (view_at views at) ≡ true

-- the rows of a column
pub record RowsInRoom (vs ss ns : List ℕ) (c : Column) : Type 0 where
  pub limit : c.first + c.rows ≤ row_limit
  pub views : view_size * (c.first + c.rows) ≤ length vs
  pub starts : c.blocks ≤ length ss
  pub lens : c.blocks ≤ length ns

-- row i of one column and row j of another
pub record Comparable (l : Lent) (c : Column) (i : ℕ) (m : Lent) (d : Column) (j : ℕ) : Type 0 where
  pub fit : fits l c ≡ true
  pub fit2 : fits m d ≡ true
  pub row : i < c.rows
  pub row2 : j < d.rows
  pub reach : reachable_at l c i ≡ true
  pub reach2 : reachable_at m d j ≡ true

-- every row of either
pub record AllComparable (l : Lent) (c : Column) (m : Lent) (d : Column) : Type 0 where
  pub fit : fits l c ≡ true
  pub fit2 : fits m d ≡ true
  pub reach : (r : ℕ) → r < c.rows → reachable_at l c r ≡ true
  pub reach2 : (r : ℕ) → r < d.rows → reachable_at m d r ≡ true
