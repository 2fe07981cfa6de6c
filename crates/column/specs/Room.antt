-- What the leaves over one row ask of the buffers, and the buffers of a column whose null map isn't asked. Assumes nothing.
use Rattle.std.specs.Prelude.{List, [], ℕ, ◌+◌, ◌*◌, ◌≤◌, length}
use Rattle.views.specs.View.{view_size}
use Rattle.column.specs.declared.Buffers.{Buffers}
use Rattle.column.specs.Lent.{Lent, lent}

-- no null map: how far a view reaches, and whether it is true, doesn't depend on it
abbrev pub bare : List ℕ → List ℕ → List ℕ → List ℕ → Lent
bare views bytes starts lens = lent views bytes starts lens []

abbrev pub bare_of : Buffers → Lent
bare_of b = bare b.views.now b.bytes.now b.starts.now b.lens.now

-- the table has the blocks
pub record Listed (ss ns : List ℕ) (blocks : ℕ) : Type 0 where
  pub starts : blocks ≤ length ss
  pub lens : blocks ≤ length ns

-- the views have the row, which counts from row 0 of the views, and the table has the blocks
pub record InRoom (vs ss ns : List ℕ) (blocks at : ℕ) : Type 0 where
  pub row : view_size * at + view_size ≤ length vs
  pub starts : blocks ≤ length ss
  pub lens : blocks ≤ length ns
