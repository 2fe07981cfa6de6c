-- Compaction over block tables of records: the answer, and each buffer of the new column at exit. Assumes nothing.
use Rattle.std.specs.Prelude.{◌≡◌, List, ℕ}
use Rattle.bounds.specs.Refusals.{if_accepted}
use Rattle.column.specs.declared.Block.{Block}
use Rattle.column.specs.declared.Column.{Column}
use Rattle.column.specs.Lent.{Lent}
use Rattle.compaction.specs.declared.Outcome.{Outcome}
use Rattle.compaction.specs.Compact.{why_compact, compacted, compact_of}

-- the whole call, over the buffers l of the column c and the buffers `out` that it is written to
pub record Compacts (most : ℕ) (l : Lent) (c : Column) (out : Lent) (r : Outcome) (vs bs : List ℕ) (t : List Block) (ms : List ℕ) : Type 0 where
  pub answer : r ≡ compact_of most l c out
  pub views : vs ≡ if_accepted (why_compact most l c out) (compacted most l c out).views out.views
  pub bytes : bs ≡ if_accepted (why_compact most l c out) (compacted most l c out).bytes out.bytes
  pub table : t ≡ if_accepted (why_compact most l c out) (compacted most l c out).table out.table
  pub nulls : ms ≡ if_accepted (why_compact most l c out) (compacted most l c out).nulls out.nulls
