-- Compaction of any valid column, whoever made it, and the offset column: what each row shows, the check, the order, the bound, the bytes; and that compacting
-- again at the same maximum changes nothing. Assumes nothing.
use Rattle.bounds.specs.Refusals.{accepted}
use Rattle.std.specs.Prelude.{◌≡◌, List, map, ℕ, ◌≤◌, ◌<◌, length, take, Ok}
use Rattle.bounds.specs.Bounds.{most_compaction}
use Rattle.column.specs.declared.Block.{Block}
use Rattle.column.specs.declared.Column.{Column}
use Rattle.column.specs.Lent.{Lent}
use Rattle.column.specs.Meaning.{blocks_of}
use Rattle.column.specs.Laid.{views_of, bits_of}
use Rattle.reading.specs.Reading.{why_value, value_at, bit_of, total_buffer_bytes_used}
use Rattle.validity.specs.Check.{why_invalid}
use Rattle.comparison.specs.Compare.{compare_rows}
use Rattle.laying.specs.Rooms.{why_rooms}
use Rattle.laying.specs.Written.{total}
use Rattle.compaction.specs.Compact.{long_lens, new_lens, why_compact, compacted, compact_column}
use Rattle.compaction.specs.Bounded.{Bounded}

-- one column's rows are the other's: they can be read, and have the values and bits; beside a row of any valid column they compare as before, on either side
pub record Alike (l : Lent) (c : Column) (m : Lent) (d : Column) : Type 0 where
  pub rows : d.rows ≡ c.rows
  pub accepts : (r : ℕ) → r < c.rows → why_value m d r ≡ accepted
  pub values : (r : ℕ) → r < c.rows → value_at m d r ≡ value_at l c r
  pub bits : (r : ℕ) → r < c.rows → bit_of m d r ≡ bit_of l c r
  pub compares : (n : Lent) (e : Column) → why_invalid n e ≡ accepted → (i j : ℕ) → i < c.rows → j < e.rows → compare_rows m d i n e j ≡ compare_rows l c i n e j
  pub compared : (n : Lent) (e : Column) → why_invalid n e ≡ accepted → (i j : ℕ) → i < c.rows → j < e.rows → compare_rows n e j m d i ≡ compare_rows n e j l c i

-- the lengths of the first n blocks
abbrev pub lens_of_first : Lent → ℕ → List ℕ
lens_of_first l n = map (λ (b : Block). b.len) (take n l.table)

-- one column is the other, view for view, record for record, and byte for byte of each block; only the buffers behind it may differ
pub record Unchanged (l : Lent) (c : Column) (m : Lent) (d : Column) : Type 0 where
  pub column : d ≡ c
  pub views : views_of m d ≡ views_of l c
  pub table : take c.blocks m.table ≡ take c.blocks l.table
  pub blocks : blocks_of m c.blocks ≡ blocks_of l c.blocks
  pub bits : bits_of m d ≡ bits_of l c

pub record Compactions : Type 0 where
  -- a valid column is refused for its maximum and for want of room alone
  pub judges : (most : ℕ) (l : Lent) (c : Column) (out : Lent) → why_invalid l c ≡ accepted → most ≤ most_compaction
      → why_compact most l c out ≡ why_rooms c.mapped c.rows (length (new_lens most l c)) (total (long_lens l c c.rows)) out
  pub shows : (most : ℕ) (l : Lent) (c : Column) (out : Lent) → why_invalid l c ≡ accepted → why_compact most l c out ≡ accepted
      → Alike l c (compacted most l c out) (compact_column most l c)
  -- the rest holds of every column that compaction takes, though a block of it that no row reaches lie outside the data
  pub checks : (most : ℕ) (l : Lent) (c : Column) (out : Lent) → why_compact most l c out ≡ accepted → why_invalid (compacted most l c out)
      (compact_column most l c) ≡ accepted
  pub bounds : (most : ℕ) (l : Lent) (c : Column) (out : Lent) → why_compact most l c out ≡ accepted → Bounded most (compacted most l c out)
      (compact_column most l c)
  -- the new blocks have as many bytes as `total_buffer_bytes_used` says of the source
  pub used : (most : ℕ) (l : Lent) (c : Column) (out : Lent) → why_compact most l c out ≡ accepted
      → total_buffer_bytes_used l c ≡ Ok (total (lens_of_first (compacted most l c out) (compact_column most l c).blocks))
  pub again : (most : ℕ) (l : Lent) (c : Column) (out out₂ : Lent) → why_compact most l c out ≡ accepted → why_compact most (compacted most l c out)
      (compact_column most l c) out₂ ≡ accepted
      → Unchanged (compacted most l c out) (compact_column most l c) (compacted most (compacted most l c out) (compact_column most l c) out₂)
      (compact_column most (compacted most l c out) (compact_column most l c))
