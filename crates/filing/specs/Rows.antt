-- What a row's view and the record of the block that it names have to do with each other. Assumes nothing.
use Rattle.std.specs.Prelude.{◌≡◌, List, ℕ, ◌+◌, ◌*◌, ◌≤◌, length, get_or}
use Rattle.views.specs.View.{view_at, block_of}
use Rattle.column.specs.declared.Block.{Block}
use Rattle.column.specs.Lent.{block}

-- b is the record of the block that the view of row r names, in a table of two number slices
abbrev pub RowNames : List ℕ → ℕ → Block → List ℕ → List ℕ → Type 0
RowNames vs r b ss ns = (k : ℕ) → k ≡ block_of (view_at vs r) → b ≡ block (get_or ss k 0) (get_or ns k 0)

-- in a table of records; where the views have no such row, nothing is said
abbrev pub RowSees : List ℕ → ℕ → Block → List Block → Type 0
RowSees vs r b t = 16 * r + 16 ≤ length vs → b ≡ get_or t (block_of (view_at vs r)) (block 0 0)
