-- The builder's other calls: a block, a view of a completed block, a column, and the value of a row. Assumes nothing.
use Rattle.std.specs.Prelude.{true, not, ◌&&◌, List, ◌++◌, ℕ, zero, suc, ◌+◌, leb, ltb, length, take, drop, set}
use Rattle.std.proofs.Math.Seq.{paste}
use Rattle.basis.specs.Pick.{pick}
use Rattle.words.specs.Words.{enc}
use Rattle.bounds.specs.Bounds.{byte_limit}
use Rattle.bounds.specs.Refusals.{refuse, if_accepted, accepted, Why}
use Rattle.bounds.specs.declared.Refusal.TheVariants.{Fit, TooLong, NotUtf8, RowRoom, BlockRoom, DataRoom, NoBlock, Range}
use Rattle.views.specs.View.{length_of, block_of, is_short, make_view}
use Rattle.column.specs.declared.Column.{Column}
use Rattle.column.specs.Lent.{Lent, buffers, block, block_at, in_data, all_in_data, fits, block_room, data_room}
use Rattle.column.specs.Meaning.{bytes_of, blocks_of, part, row_view, row_valid}
use Rattle.column.specs.Truth.{of_kind, true_at, lowest}
use Rattle.builder.specs.declared.State.{State}
use Rattle.builder.specs.State.{Builder, builder, moved, rows_room, all_blocks, used, fits_state, complete, add_row}

-- a block laid whole after the completed ones, an empty one too
unfoldable pub lay_block : List ℕ → Builder → Builder
lay_block x b =
    let s = b.state in
    let l = b.lent in
    builder
    (moved s s.growth s.rows (suc s.blocks) (s.base + length x) s.fill s.cap s.nulled)
    (buffers l.views (paste l.bytes s.base x (length x)) (set l.table s.blocks (block s.base (length x))) l.nulls)
    b.places

-- n blocks, each after the other
unfoldable pub lay_blocks : ℕ → (ℕ → List ℕ) → Builder → Builder
lay_blocks zero f b = b
lay_blocks (suc n) f b = lay_block (f n) (lay_blocks n f b)

-- n blocks and m bytes more than all that is there, in rooms for so many blocks and bytes
unfoldable pub why_room : State → ℕ → ℕ → ℕ → ℕ → Why
why_room s blocks bytes n m = refuse BlockRoom (ltb blocks (all_blocks s + n)) (refuse DataRoom (ltb bytes (used s + m)) accepted)

unfoldable pub why_block : Builder → List ℕ → Why
why_block b x =
    refuse Fit (not (fits_state b))
    (refuse TooLong (ltb byte_limit (length x)) (why_room b.state (block_room b.lent) (data_room b.lent) 1 (length x)))

unfoldable pub put_block : List ℕ → Builder → Builder
put_block x b = lay_block x (complete b)

-- its number is the count of the blocks before it; 0 where it is refused
unfoldable pub block_number : Builder → List ℕ → ℕ
block_number b x = if_accepted (why_block b x) (all_blocks b.state) 0

-- n bytes at an offset of completed block k
unfoldable pub viewed : Builder → ℕ → ℕ → ℕ → List ℕ
viewed b k offset n = part (blocks_of b.lent b.state.blocks) k offset n

unfoldable pub why_view : Builder → ℕ → ℕ → ℕ → Why
why_view b k offset n =
    refuse Fit (not (fits_state b))
    (refuse NoBlock (leb b.state.blocks k)
    (refuse Range (not (in_data b.lent (block_at b.lent k) && leb (offset + n) (block_at b.lent k).len))
    (refuse NotUtf8 (not (of_kind b.state.kind (viewed b k offset n))) (refuse RowRoom (leb (rows_room b) b.state.rows) accepted))))

unfoldable pub put_view : ℕ → ℕ → ℕ → Builder → Builder
put_view k offset n b = add_row (make_view (viewed b k offset n) k offset) true b

-- a long view points n blocks further on
unfoldable pub renumbered : ℕ → List ℕ → List ℕ
renumbered n v = pick (is_short (length_of v)) v (take 8 v ++ (enc 4 (block_of v + n) ++ drop 12 v))

-- the first n rows of a column, each after the other
unfoldable pub add_column : ℕ → ℕ → Lent → Column → Builder → Builder
add_column zero before l c b = b
add_column (suc n) before l c b = add_row (renumbered before (row_view l c n)) (row_valid l c n) (add_column n before l c b)

-- the bytes of a column's block, and the bytes of its first n blocks together
abbrev pub block_bytes : Lent → ℕ → List ℕ
block_bytes l k = bytes_of l.bytes (block_at l k)

unfoldable pub sizes : Lent → ℕ → ℕ
sizes l zero = 0
sizes l (suc n) = sizes l n + (block_at l n).len

unfoldable pub why_column : Lent → Column → Builder → Why
why_column l c b =
    refuse Fit (not (fits_state b))
    (refuse Fit (not (fits l c))
    (lowest (true_at b.state.kind l c) c.rows
    (refuse Range (not (all_in_data l c.blocks))
    (refuse RowRoom (ltb (rows_room b) (b.state.rows + c.rows))
    (why_room b.state (block_room b.lent) (data_room b.lent) c.blocks (sizes l c.blocks))))))

unfoldable pub put_column : Lent → Column → Builder → Builder
put_column l c b = add_column c.rows (all_blocks b.state) l c (lay_blocks c.blocks (block_bytes l) (complete b))
