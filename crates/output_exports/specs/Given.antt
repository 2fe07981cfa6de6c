-- What compaction and the offset column give across the boundary: the new column's five numbers beside the buffers. Assumes nothing.
use Rattle.std.specs.Prelude.{◌≡◌, List, [], ◌∷◌, ℕ, length}
use Rattle.bounds.specs.Refusals.{why_number, if_accepted}
use Rattle.column.specs.declared.Kind.{Kind}
use Rattle.column.specs.declared.Column.{Column}
use Rattle.column.specs.Lent.{Lent, lent}
use Rattle.laying.specs.Written.{front, starts_from}
use Rattle.compaction.specs.Compact.{new_lens, why_compact, compacted, compact_column}
use Rattle.offsets.specs.Offsets.{Source, why_offsets, from_offsets, offset_column}
use Rattle.numbers.specs.declared.Told.{Told}
use Rattle.numbers.specs.Numbers.{column_numbers, why_told}

-- compaction into five slices and five numbers: the answer, and each of them at exit
pub record ExportsCompact (most : ℕ) (l : Lent) (c : Column) (vs bs ss ns ms cs : List ℕ) (r : Told) (vs' bs' ss' ns' ms' cs' : List ℕ) : Type 0 where
  pub answer : r ≡ why_told (why_compact most l c (lent vs bs ss ns ms))
  pub views : vs' ≡ if_accepted (why_compact most l c (lent vs bs ss ns ms)) (compacted most l c (lent vs bs ss ns ms)).views vs
  pub bytes : bs' ≡ if_accepted (why_compact most l c (lent vs bs ss ns ms)) (compacted most l c (lent vs bs ss ns ms)).bytes bs
  pub starts : ss' ≡ if_accepted (why_compact most l c (lent vs bs ss ns ms)) (front ss (starts_from 0 (new_lens most l c))) ss
  pub lens : ns' ≡ if_accepted (why_compact most l c (lent vs bs ss ns ms)) (front ns (new_lens most l c)) ns
  pub nulls : ms' ≡ if_accepted (why_compact most l c (lent vs bs ss ns ms)) (compacted most l c (lent vs bs ss ns ms)).nulls ms
  pub column : cs' ≡ if_accepted (why_compact most l c (lent vs bs ss ns ms)) (column_numbers (compact_column most l c)) cs

-- the same for a column from 32-bit offsets
pub record Converts (s : Source) (k : Kind) (vs bs ss ns ms cs : List ℕ) (r : ℕ) (vs' bs' ss' ns' ms' cs' : List ℕ) : Type 0 where
  pub answer : r ≡ why_number (why_offsets 4 s k (lent vs bs ss ns ms))
  pub views : vs' ≡ if_accepted (why_offsets 4 s k (lent vs bs ss ns ms)) (from_offsets 4 s (lent vs bs ss ns ms)).views vs
  pub bytes : bs' ≡ if_accepted (why_offsets 4 s k (lent vs bs ss ns ms)) (from_offsets 4 s (lent vs bs ss ns ms)).bytes bs
  pub starts : ss' ≡ if_accepted (why_offsets 4 s k (lent vs bs ss ns ms)) (front ss (0 ∷ [])) ss
  pub lens : ns' ≡ if_accepted (why_offsets 4 s k (lent vs bs ss ns ms)) (front ns (length s.bytes ∷ [])) ns
  pub nulls : ms' ≡ if_accepted (why_offsets 4 s k (lent vs bs ss ns ms)) (from_offsets 4 s (lent vs bs ss ns ms)).nulls ms
  pub column : cs' ≡ if_accepted (why_offsets 4 s k (lent vs bs ss ns ms)) (column_numbers (offset_column 4 s k)) cs
