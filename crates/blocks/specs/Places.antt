-- The places of the check: one for each row of a column, then one for each of its blocks. Assumes nothing.
use Rattle.std.specs.Prelude.{◌≡◌, Bool, true, false, List, ℕ, ◌+◌, ◌-◌, ◌*◌, ◌≤◌, ◌<◌, ltb, length}
use Rattle.basis.specs.Pick.{pick}
use Rattle.views.specs.View.{view_size, view_at, block_of}
use Rattle.column.specs.declared.Block.{Block}
use Rattle.column.specs.declared.Column.{Column}
use Rattle.column.specs.Lent.{Lent, buffers, block_at, fits, in_data}
use Rattle.column.specs.Truth.{true_at}

-- a row's view is true, a block lies in the data
unfoldable pub holds_at : Lent → Column → ℕ → Bool
holds_at l c k = pick (ltb k c.rows) (true_at c.kind l c k) (in_data l (block_at l (k - c.rows)))

-- p is the number of the record that place k asks for
pub record Asks (views : List ℕ) (c : Column) (k p : ℕ) : Type 0 where
  pub row : k < c.rows → view_size * (c.first + k) + view_size ≤ length views → p ≡ block_of (view_at views (c.first + k))
  pub block : c.rows ≤ k → p ≡ k - c.rows

-- r says whether place k of so many holds
pub record Answers (views bytes : List ℕ) (table : List Block) (c : Column) (places k : ℕ) (r : Bool) : Type 0 where
  pub below : r ≡ true → k < places
  pub right : (nulls : List ℕ) → view_size * (c.first + c.rows) ≤ length views → k < places → r ≡ holds_at (buffers views bytes table nulls) c k

-- all places before k hold, and k is past them all or doesn't; of a column whose rows are in the views
pub record PlaceFound (views bytes : List ℕ) (table : List Block) (c : Column) (places k : ℕ) : Type 0 where
  pub most : k ≤ places
  pub passed : (nulls : List ℕ) → view_size * (c.first + c.rows) ≤ length views → (j : ℕ) → j < k → holds_at (buffers views bytes table nulls) c j ≡ true
  pub stops : (nulls : List ℕ) → view_size * (c.first + c.rows) ≤ length views → k < places → holds_at (buffers views bytes table nulls) c k ≡ false

-- a column that fits has as many places as rows and blocks
pub record PlacesCounted (views nulls : List ℕ) (c : Column) (count places : ℕ) : Type 0 where
  pub room : 0 < places → view_size * (c.first + c.rows) ≤ length views
  pub all : (bytes : List ℕ) (table : List Block) → count ≡ length table → fits (buffers views bytes table nulls) c ≡ true → places ≡ c.rows + c.blocks

-- the same of a column that fits
pub record Stopped (l : Lent) (c : Column) (k : ℕ) : Type 0 where
  pub passed : (j : ℕ) → j < k → holds_at l c j ≡ true
  pub stops : k < c.rows + c.blocks → holds_at l c k ≡ false
