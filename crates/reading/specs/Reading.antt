-- Reading a column: why each call refuses, and what it answers. Assumes nothing.
use Rattle.bounds.specs.declared.Refusal.{Refusal}
use Rattle.std.specs.Prelude.{Bool, not, List, [], ℕ, zero, suc, ◌+◌, ◌-◌, leb, ltb, length, take, drop, Ok, Err, Result}
use Rattle.basis.specs.Pick.{pick}
use Rattle.null_bits.specs.Bits.{count_nulls}
use Rattle.bounds.specs.Refusals.{refuse, if_accepted, accepted, Why, answered}
use Rattle.bounds.specs.declared.Refusal.TheVariants.{Fit, Row, BadView}
use Rattle.views.specs.View.{length_of, is_short}
use Rattle.column.specs.declared.Column.{Column}
use Rattle.column.specs.Lent.{Lent, fits}
use Rattle.column.specs.Meaning.{row_view, shown_at, row_valid}
use Rattle.column.specs.declared.Spot.{Spot}
use Rattle.column.specs.Spot.{spot_in, bytes_at, points_to, further, Lies}
use Rattle.column.specs.Truth.{reach_by, is_inside, reachable_at}

-- 2
unfoldable pub why_fit : Lent → Column → Why
why_fit l c = refuse Fit (not (fits l c)) accepted

-- 2, 3: of rows that begin at start, and count of them
unfoldable pub why_run : Lent → Column → ℕ → ℕ → Why
why_run l c start count = refuse Fit (not (fits l c)) (refuse Row (ltb c.rows (start + count)) accepted)

-- 2, 3: of one row
unfoldable pub why_row : Lent → Column → ℕ → Why
why_row l c r = why_run l c r 1

-- 11, by where the value of row r stands
unfoldable pub why_reach : ℕ → Spot → Why
why_reach r s = refuse (BadView r) (not (is_inside (reach_by s))) accepted

-- 2, 3, 11
unfoldable pub why_value : Lent → Column → ℕ → Why
why_value l c r = refuse Fit (not (fits l c)) (refuse Row (leb c.rows r) (refuse (BadView r) (not (reachable_at l c r)) accepted))

-- where a row's value stands, or why it is refused
unfoldable pub located_at : Lent → Column → ℕ → Result Spot Refusal
located_at l c r = answered (why_value l c r) (spot_in l c.blocks (row_view l c r) (c.first + r))

-- of a value that was looked for: why it is refused, its bytes, where that part is, and that it lies in its slice
abbrev pub why_of : Result Spot Refusal → Why
why_of (Ok s) = accepted
why_of (Err r) = Err r

unfoldable pub located_bytes : List ℕ → List ℕ → Result Spot Refusal → List ℕ
located_bytes views bytes (Ok s) = bytes_at views bytes s
located_bytes views bytes (Err r) = []

unfoldable pub points_of : ℕ × ℕ → ℕ × ℕ → Result Spot Refusal → ℕ × ℕ
points_of views bytes (Ok s) = points_to views bytes s
points_of views bytes (Err r) = further views 0

unfoldable pub LiesAt : List ℕ → List ℕ → Result Spot Refusal → Type 0
LiesAt views bytes (Ok s) = Lies views bytes s
LiesAt views bytes (Err r) = Unit {0}

-- a row's value, empty where it is refused
unfoldable pub value_at : Lent → Column → ℕ → List ℕ
value_at l c r = if_accepted (why_value l c r) (shown_at l c r) []

-- which part that is, by where the views and the data are
unfoldable pub points_at : Lent → Column → ℕ → ℕ × ℕ → ℕ × ℕ → ℕ × ℕ
points_at l c r views bytes = points_of views bytes (located_at l c r)

-- the first n bytes, and the last n: none where there are fewer
unfoldable pub prefix_bytes : ℕ → List ℕ → List ℕ
prefix_bytes n x = pick (leb n (length x)) (take n x) []

unfoldable pub suffix_bytes : ℕ → List ℕ → List ℕ
suffix_bytes n x = pick (leb n (length x)) (drop (length x - n) x) []

-- how far into a value its last n bytes begin
unfoldable pub skip_of : ℕ → List ℕ → ℕ
skip_of n x = pick (leb n (length x)) (length x - n) 0

-- of what a row's value is, which is empty where it is refused
unfoldable pub prefix_at : Lent → Column → ℕ → ℕ → List ℕ
prefix_at l c r n = prefix_bytes n (value_at l c r)

unfoldable pub suffix_at : Lent → Column → ℕ → ℕ → List ℕ
suffix_at l c r n = suffix_bytes n (value_at l c r)

-- a row's length is its view's, reachable or not
unfoldable pub length_at : Lent → Column → ℕ → Result ℕ Refusal
length_at l c r = answered (why_row l c r) (length_of (row_view l c r))

unfoldable pub bit_of : Lent → Column → ℕ → Result Bool Refusal
bit_of l c r = answered (why_row l c r) (row_valid l c r)

-- how many of the rows from start on, count of them, are null
unfoldable pub null_run : Lent → Column → ℕ → ℕ → Result ℕ Refusal
null_run l c start count = answered (why_run l c start count) (count_nulls l.nulls c.mapped (c.first + start) count)

-- the column from row start on, count rows of it, over the same buffers
abbrev pub slice_of : Column → ℕ → ℕ → Column
slice_of c start count = record { first = c.first + start; rows = count; blocks = c.blocks; kind = c.kind; mapped = c.mapped }

unfoldable pub slice : Lent → Column → ℕ → ℕ → Result Column Refusal
slice l c start count = answered (why_run l c start count) (slice_of c start count)

-- the lengths of the first n rows that aren't null
unfoldable pub bytes_len : Lent → Column → ℕ → ℕ
bytes_len l c zero = 0
bytes_len l c (suc n) = bytes_len l c n + pick (row_valid l c n) (length_of (row_view l c n)) 0

unfoldable pub total_bytes_len : Lent → Column → Result ℕ Refusal
total_bytes_len l c = answered (why_fit l c) (bytes_len l c c.rows)

-- the lengths of the long ones of the first n rows, null or not
unfoldable pub buffer_bytes : Lent → Column → ℕ → ℕ
buffer_bytes l c zero = 0
buffer_bytes l c (suc n) = buffer_bytes l c n + pick (is_short (length_of (row_view l c n))) 0 (length_of (row_view l c n))

unfoldable pub total_buffer_bytes_used : Lent → Column → Result ℕ Refusal
total_buffer_bytes_used l c = answered (why_fit l c) (buffer_bytes l c c.rows)
