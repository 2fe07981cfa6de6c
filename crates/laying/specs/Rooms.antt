-- Why buffers have no room for a column that is written from their front on. Assumes nothing.
use Rattle.std.specs.Prelude.{Bool, ℕ, ltb}
use Rattle.bounds.specs.Refusals.{refuse, accepted, Why}
use Rattle.bounds.specs.declared.Refusal.TheVariants.{RowRoom, BlockRoom, DataRoom}
use Rattle.column.specs.Lent.{Lent, row_room, block_room, data_room}

-- 5, 6, 7: so many rows, with a map or without, blocks and bytes into buffers of their own
unfoldable pub why_rooms : Bool → ℕ → ℕ → ℕ → Lent → Why
why_rooms mapped rows blocks bytes out =
    refuse RowRoom (ltb (row_room mapped out) rows) (refuse BlockRoom (ltb (block_room out) blocks) (refuse DataRoom (ltb (data_room out) bytes) accepted))
