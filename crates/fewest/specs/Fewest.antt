-- No fewer blocks: what compaction answers has as few blocks that aren't empty as any lawful cut of the long rows. Assumes nothing.
use Rattle.bounds.specs.Refusals.{accepted}
use Rattle.std.specs.Prelude.{◌≡◌, List, map, ℕ, ◌≤◌, ◌<◌, ltb, length, take}
use Rattle.column.specs.declared.Block.{Block}
use Rattle.column.specs.declared.Column.{Column}
use Rattle.column.specs.Lent.{Lent, buffers, block_at}
use Rattle.column.specs.Meaning.{row_view, shown_at}
use Rattle.column.specs.Laid.{rows_of}
use Rattle.compaction.specs.declared.Outcome.{Outcome}
use Rattle.compaction.specs.Bounded.{points}
use Rattle.compaction_blocks.specs.Compacts.{Compacts}
use Rattle.promise.specs.Answered.{Buffers, lent_as, CompactMet}
use Rattle.fewest.specs.Lawful.{those, long_rows, Lawful}

-- the records of a column's blocks that aren't empty, by the lengths in its table
abbrev pub filled_blocks : Lent → Column → List Block
filled_blocks l c = those (λ (b : Block). ltb 0 b.len) (take c.blocks l.table)

-- the rows that point into block k
abbrev pub rows_into : Lent → Column → ℕ → List ℕ
rows_into l c k = those (λ r. points k (row_view l c r)) (rows_of (λ r. r) c.rows)

-- a column's own cut: for each block what the rows that point into it show, blocks without a row left out
abbrev pub own_cut : Lent → Column → List (List (List ℕ))
own_cut l c = those (λ b. ltb 0 (length b)) (rows_of (λ k. map (shown_at l c) (rows_into l c k)) c.blocks)

-- the column d over m cuts the long rows of c over l into the fewest blocks that a maximum allows
pub record Fewest (most : ℕ) (l : Lent) (c : Column) (m : Lent) (d : Column) : Type 0 where
  -- no lawful cut has fewer blocks than d has that aren't empty
  pub fewest : (bs : List (List (List ℕ))) → Lawful most (long_rows l c) bs → length (filled_blocks m d) ≤ length bs
  -- its own cut is lawful, and has as many
  pub own : Lawful most (long_rows l c) (own_cut m d)
  pub count : length (own_cut m d) ≡ length (filled_blocks m d)
  -- only the first block can be empty
  pub first : (k : ℕ) → k < d.blocks → (block_at m k).len ≡ 0 → k ≡ 0

-- so it is with every accepted compaction, by the call's contract alone; over block tables of records too
pub record NoFewer : Type 0 where
  pub slices : (most : ℕ) (b : Buffers) (c : Column) (o : Buffers) (r : Outcome) (o' : Buffers) → CompactMet most b c o r o'
      → Fewest most (lent_as b) c (lent_as o') r.column
  pub records : (most : ℕ) (l : Lent) (c : Column) (out : Lent) (r : Outcome) (vs bs : List ℕ) (t : List Block) (ms : List ℕ)
      → Compacts most l c out r vs bs t ms → r.why ≡ accepted
      → Fewest most l c (buffers vs bs t ms) r.column
