-- What the buffers of a column mean: a view a row, each block's bytes, a bit a row; and the value that a view shows. Assumes nothing.
use Rattle.std.specs.Prelude.{Bool, List, [], map, ℕ, ◌+◌, take, drop, get_or}
use Rattle.basis.specs.Pick.{pick}
use Rattle.null_bits.specs.Bits as bits
use Rattle.views.specs.View.{length_of, block_of, offset_of, body_of, is_short, view_at}
use Rattle.column.specs.declared.Block.{Block}
use Rattle.column.specs.declared.Column.{Column}
use Rattle.column.specs.Lent.{Lent}

-- the view of a row, which counts from the column's first
abbrev pub row_view : Lent → Column → ℕ → List ℕ
row_view l c r = view_at l.views (c.first + r)

abbrev pub bytes_of : List ℕ → Block → List ℕ
bytes_of bytes b = take b.len (drop b.start bytes)

-- the bytes of the first n blocks
unfoldable pub blocks_of : Lent → ℕ → List (List ℕ)
blocks_of l n = map (bytes_of l.bytes) (take n l.table)

-- n bytes of block k from an offset
abbrev pub part : List (List ℕ) → ℕ → ℕ → ℕ → List ℕ
part blocks k offset n = take n (drop offset (get_or blocks k []))

-- a short value stands in its view, a long one in a block
unfoldable pub shown : List (List ℕ) → List ℕ → List ℕ
shown blocks v = pick (is_short (length_of v)) (take (length_of v) (body_of v)) (part blocks (block_of v) (offset_of v) (length_of v))

-- what a row of a column shows, its null bit ignored
unfoldable pub shown_at : Lent → Column → ℕ → List ℕ
shown_at l c r = shown (blocks_of l c.blocks) (row_view l c r)

-- a row isn't null; without a map none is
unfoldable pub row_valid : Lent → Column → ℕ → Bool
row_valid l c r = bits.valid_at l.nulls c.mapped (c.first + r)
