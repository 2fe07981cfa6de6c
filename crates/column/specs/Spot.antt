-- Where a view's value stands: which part of the views or of the data, or what keeps it from being read. Assumes nothing.
use Rattle.std.specs.Prelude.{◌≡◌, ◌&&◌, List, [], ℕ, ◌+◌, ◌*◌, ◌≤◌, ◌<◌, leb, ltb, length, take, drop, get_or}
use Rattle.basis.specs.Pick.{pick}
use Rattle.bounds.specs.Bounds.{byte_limit}
use Rattle.views.specs.View.{view_size, short_most, is_short, length_of, block_of, offset_of, view_at}
use Rattle.column.specs.declared.Block.{Block}
use Rattle.column.specs.declared.Seen.{Seen}
use Rattle.column.specs.declared.Spot.{Spot}
use Rattle.column.specs.declared.Spot.TheVariants.{View, Data, NoBlock, Outside}
use Rattle.column.specs.Lent.{Lent, block, block_at, data_room}

-- over so much data and the first n blocks; b is the record of the block that the view names, `at` its row, counted from row 0 of the views
unfoldable pub spot_of : ℕ → ℕ → Block → List ℕ → ℕ → Spot
spot_of room n b v at =
    pick (is_short (length_of v)) (View (view_size * at + 4) (length_of v))
    (pick (ltb (block_of v) n)
    (pick (leb (b.start + b.len) room && leb (offset_of v + length_of v) b.len) (Data (b.start + offset_of v) (length_of v)) Outside)
    NoBlock)

abbrev pub spot_in : Lent → ℕ → List ℕ → ℕ → Spot
spot_in l n v at = spot_of (data_room l) n (block_at l (block_of v)) v at

-- the bytes that stand there
unfoldable pub bytes_at : List ℕ → List ℕ → Spot → List ℕ
bytes_at views bytes (View o n) = take n (drop o views)
bytes_at views bytes (Data o n) = take n (drop o bytes)
bytes_at views bytes NoBlock = []
bytes_at views bytes Outside = []

-- so many bytes further on in the same lent slice
abbrev pub further : ℕ × ℕ → ℕ → ℕ × ℕ
further p k = (p.0, p.1 + k)

-- where that part is, by where the views and the data are: its slice, and its place in it; an empty part is one of the views, at their start
unfoldable pub points_to : ℕ × ℕ → ℕ × ℕ → Spot → ℕ × ℕ
points_to views bytes (View o n) = further views o
points_to views bytes (Data o n) = further bytes o
points_to views bytes NoBlock = further views 0
points_to views bytes Outside = further views 0

-- the part lies in its slice
unfoldable pub Lies : List ℕ → List ℕ → Spot → Type 0
Lies views bytes (View o n) = o + n ≤ length views
Lies views bytes (Data o n) = (o + n ≤ length bytes) × (o + n ≤ byte_limit)
Lies views bytes NoBlock = Unit {0}
Lies views bytes Outside = Unit {0}

-- b is the record of the block that a long view names among the first n
abbrev pub Names : List Block → ℕ → List ℕ → Block → Type 0
Names table n v b = short_most < length_of v → block_of v < n → b ≡ get_or table (block_of v) (block 0 0)

-- a row, which counts from row 0 of the views, sees s of the table; where the views have no such row, nothing is said of the record
pub record Sees (table : List Block) (views : List ℕ) (at : ℕ) (s : Seen) : Type 0 where
  pub count : s.count ≡ length table
  pub block : view_size * at + view_size ≤ length views → s.block ≡ get_or table (block_of (view_at views at)) (block 0 0)
