-- What a caller lends for a column, the room that it gives, and when a column's numbers fit. Assumes nothing.
use Rattle.std.specs.Prelude.{Bool, true, false, ◌&&◌, List, [], ◌∷◌, ℕ, zero, suc, ◌+◌, ◌*◌, ◌/◌, min, leb, length, get_or}
use Rattle.bounds.specs.Bounds.{row_limit, block_limit, byte_limit}
use Rattle.column.specs.declared.Block.{Block}
use Rattle.column.specs.declared.Buffers.{Buffers}
use Rattle.column.specs.declared.Column.{Column}

-- the bytes of the views, the data, the block table, the bytes of the null map
pub record Lent : Type 0 where
  pub views : List ℕ
  pub bytes : List ℕ
  pub table : List Block
  pub nulls : List ℕ

abbrev pub buffers : List ℕ → List ℕ → List Block → List ℕ → Lent
buffers views bytes table nulls = record { views = views; bytes = bytes; table = table; nulls = nulls }

abbrev pub block : ℕ → ℕ → Block
block s n = record { start = s; len = n }

-- the block table lent as two number slices; it is as long as the shorter one
unfoldable pub table_of : List ℕ → List ℕ → List Block
table_of [] ns = []
table_of (s ∷ ss) [] = []
table_of (s ∷ ss) (n ∷ ns) = block s n ∷ table_of ss ns

abbrev pub lent : List ℕ → List ℕ → List ℕ → List ℕ → List ℕ → Lent
lent views bytes starts lens nulls = buffers views bytes (table_of starts lens) nulls

-- what the code's buffers hold
abbrev pub lent_of : Buffers → Lent
lent_of b = lent b.views.now b.bytes.now b.starts.now b.lens.now b.nulls.now

-- the rows that a null map has bits for; a column without a map needs none
abbrev pub map_room : Bool → List ℕ → ℕ
map_room true nulls = 8 * length nulls
map_room false nulls = row_limit

unfoldable pub row_room : Bool → Lent → ℕ
row_room mapped l = min row_limit (min (length l.views / 16) (map_room mapped l.nulls))

unfoldable pub block_room : Lent → ℕ
block_room l = min block_limit (length l.table)

unfoldable pub data_room : Lent → ℕ
data_room l = min byte_limit (length l.bytes)

unfoldable pub fits : Lent → Column → Bool
fits l c = leb (c.first + c.rows) (row_room c.mapped l) && leb c.blocks (block_room l)

-- the record of block k
abbrev pub block_at : Lent → ℕ → Block
block_at l k = get_or l.table k (block 0 0)

-- a block lies in the data
unfoldable pub in_data : Lent → Block → Bool
in_data l b = leb (b.start + b.len) (data_room l)

-- the first n blocks do
unfoldable pub all_in_data : Lent → ℕ → Bool
all_in_data l zero = true
all_in_data l (suc n) = all_in_data l n && in_data l (block_at l n)
