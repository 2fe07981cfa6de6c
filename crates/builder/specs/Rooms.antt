-- Rooms as numbers, what the leaves ask of a state and its buffers, and a row's test over them. Assumes nothing.
use Rattle.std.specs.Prelude.{Bool, ◌&&◌, List, ℕ, ◌*◌, ◌/◌, min, ◌≤◌, ltb, length, set}
use Rattle.basis.specs.Pick.{pick}
use Rattle.bounds.specs.Bounds.{row_limit, block_limit, byte_limit}
use Rattle.order.specs.Order.{same}
use Rattle.views.specs.View.{view_at}
use Rattle.column.specs.Lent.{Lent}
use Rattle.column.specs.Meaning.{blocks_of, shown}
use Rattle.column.specs.Truth.{reachable}
use Rattle.builder.specs.declared.Merging.{Merging}
use Rattle.builder.specs.declared.State.{State}
use Rattle.builder.specs.State.{places_room, is_open, all_blocks, recorded}

-- rooms by the lengths of what is lent
unfoldable pub room_of_rows : Merging → ℕ → ℕ → ℕ → ℕ
room_of_rows m views nulls places = min (min row_limit (min (views / 16) (8 * nulls))) (places_room m places)

unfoldable pub room_of_blocks : ℕ → ℕ → ℕ
room_of_blocks starts lens = min block_limit (min starts lens)

unfoldable pub room_of_bytes : ℕ → ℕ
room_of_bytes bytes = min byte_limit bytes

-- the slices after the open block's record is written
unfoldable pub open_starts : State → List ℕ → List ℕ
open_starts s ss = pick (is_open s) (set ss s.blocks s.base) ss

unfoldable pub open_lens : State → List ℕ → List ℕ
open_lens s ns = pick (is_open s) (set ns s.blocks s.fill) ns

-- row r is there, its view is reachable with the open block under the next number, and shows x
unfoldable pub shows_row : State → Lent → List ℕ → ℕ → Bool
shows_row s l x r =
    ltb r s.rows
    && (reachable (recorded s l) (all_blocks s) (view_at l.views r) && same (shown (blocks_of (recorded s l) (all_blocks s)) (view_at l.views r)) x)

-- the buffers hold the rows and the blocks
pub record Ready (s : State) (vs ss ns : List ℕ) : Type 0 where
  pub rows : 16 * s.rows ≤ length vs
  pub starts : all_blocks s ≤ length ss
  pub lens : all_blocks s ≤ length ns
