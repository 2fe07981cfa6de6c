-- Here: the blocks that are laid, and where the next one goes. Assumes nothing.
use Rattle.std.proofs.Common.{◌≡◌, ◌≤◌, ℕ, List}
use Rattle.column.specs.declared.Block.{Block}
use Rattle.appending.specs.Laying.{put_data, put_records, end_from}
use Rattle.filing_columns.proofs.ColumnsLaws.{taking}
use Rattle.filing_columns.proofs.put_blocks.Given as goal

-- what holds of the loop
pub record Laid (bytes : List ℕ) (table : List Block) (src : List ℕ) (u : List Block) (first base n : ℕ) (bs : List ℕ) (t : List Block) (at k : ℕ) : Type 0 where
  pub few : k ≤ n
  pub bytes-are : bs ≡ put_data (taking src u) k bytes base
  pub records : t ≡ put_records (taking src u) k table first base
  pub end : at ≡ end_from (taking src u) k base

abbrev pub invariant-loop-k : goal.invariant-loop-k
invariant-loop-k l = Laid l.fn.bytes l.fn.table l.src l.srctable l.first l.base l.n l.bytes l.table l.at l.k
