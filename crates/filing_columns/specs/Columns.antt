-- A column over a table of records: what is known of it before it is added, and what laying its blocks asks; a view's verdict by one record. Assumes nothing.
use Rattle.std.specs.Prelude.{◌≡◌, true, not, List, [], ℕ, ◌+◌, ◌*◌, ◌≤◌, ◌<◌, ltb, length, get_or}
use Rattle.bounds.specs.Bounds.{row_limit, block_limit, byte_limit}
use Rattle.bounds.specs.Refusals.{refuse, is_accepted, if_accepted, accepted, Why}
use Rattle.bounds.specs.declared.Refusal.TheVariants.{Fit, RowRoom}
use Rattle.column.specs.declared.Block.{Block}
use Rattle.column.specs.declared.Column.{Column}
use Rattle.column.specs.Lent.{buffers, block, all_in_data}
use Rattle.validity.specs.Check.{why_invalid}
use Rattle.builder.specs.declared.State.{State}
use Rattle.builder.specs.State.{held, all_blocks, used, fits_rooms}
use Rattle.builder.specs.Rooms.{room_of_rows, room_of_blocks, room_of_bytes}
use Rattle.builder.specs.Others.{why_room, why_view, sizes}
use Rattle.appending.specs.Laying.{by_kind}

-- n blocks whose bytes can be counted
pub record Counts (u : List Block) (n : ℕ) : Type 0 where
  pub few : n ≤ block_limit
  pub each : (k : ℕ) → k < n → (get_or u k (block 0 0)).len ≤ byte_limit

-- n blocks of another table, which lie in its data, have room from a place on in so many bytes, and their records have numbers
pub record Lays (bytes first base : ℕ) (src : List ℕ) (u : List Block) (n : ℕ) : Type 0 where
  pub inside : base + sizes (buffers [] [] u []) n ≤ bytes
  pub few : first + n < 18446744073709551616
  pub lie : all_in_data (buffers [] src u []) n ≡ true

-- w is the verdict on a column by the builder's kind, and m, where it is valid, how many bytes its blocks have together
pub record SourceJudged (s : State) (views bytes : List ℕ) (u : List Block) (nulls : List ℕ) (c : Column) (w : Why) (m : ℕ) : Type 0 where
  pub why : w ≡ why_invalid (buffers views bytes u nulls) (by_kind s.kind c)
  pub total : is_accepted w ≡ true → m ≡ sizes (buffers views bytes u nulls) c.blocks

-- the numbers that an accepted column keeps to: those of the builder with it, and its own
pub record ColumnRoomy (s : State) (views nulls srcviews srcnulls : List ℕ) (c : Column) (m : ℕ) : Type 0 where
  pub blocks : all_blocks s + c.blocks ≤ block_limit
  pub small : used s + m ≤ byte_limit
  pub rows : s.rows + c.rows ≤ row_limit
  pub views-room : 16 * (s.rows + c.rows) ≤ length views
  pub bits : s.rows + c.rows ≤ 8 * length nulls
  pub srcrows : c.first + c.rows ≤ row_limit
  pub src-room : 16 * (c.first + c.rows) ≤ length srcviews
  pub srcbits : c.mapped ≡ true → c.first + c.rows ≤ 8 * length srcnulls

-- a column's verdict, by the lengths of what is lent, the count of the records, the column's own verdict and its blocks' bytes
unfoldable pub column_by : State → ℕ → ℕ → ℕ → ℕ → ℕ → Column → Why → ℕ → Why
column_by s views bytes count nulls places c w m =
    refuse Fit (not (fits_rooms s (room_of_rows s.merging views nulls places) (room_of_blocks count count) (room_of_bytes bytes)))
    (if_accepted w
    (refuse RowRoom (ltb (room_of_rows s.merging views nulls places) (s.rows + c.rows))
    (why_room s (room_of_blocks count count) (room_of_bytes bytes) c.blocks m)) w)

-- w is the verdict on n bytes at offset o of block k over each table of two number slices that has b as that block's record
abbrev pub Says : State → List ℕ → List ℕ → List ℕ → List ℕ → ℕ → ℕ → ℕ → ℕ → Block → Why → Type 0
Says s views bytes nulls places count k o n b w = (starts lens : List ℕ) → count ≡ length starts → count ≡ length lens
    → (k < count → b ≡ block (get_or starts k 0) (get_or lens k 0)) → w ≡ why_view (held s views bytes starts lens nulls places) k o n
