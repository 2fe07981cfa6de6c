-- The columns that come of one list of values and nulls: finished under any settings, over buffers of any content and size, and compacted, again and
-- again, into buffers of their own at any maximum. What is promised of them is said by the definitions of the reading calls. Assumes nothing.
use Rattle.bounds.specs.Refusals.{accepted, answered}
use Rattle.std.specs.Prelude.{◌≡◌, List, map, ℕ, ◌<◌, length, get_or, Ok}
use Rattle.order.specs.Order.{cmp}
use Rattle.column.specs.declared.Column.{Column}
use Rattle.column.specs.Lent.{Lent}
use Rattle.reading.specs.Reading.{why_value, value_at, bit_of}
use Rattle.comparison.specs.Compare.{order_of, compare_rows}
use Rattle.builder.specs.declared.Settings.{Settings}
use Rattle.builder.specs.State.{Builder}
use Rattle.builder.specs.Start.{why_start, start}
use Rattle.builder.specs.Get.{column_of}
use Rattle.builder.specs.Finish.{why_finish, finished}
use Rattle.compaction.specs.Compact.{why_compact, compacted, compact_column}
use Rattle.compaction.specs.Bounded.{Bounded}
use Rattle.promise.specs.Calls.{Item, null, item_bytes, is_value, Entry, call, appended, Ran}

-- nothing was refused on the way to it
pub data Made (xs : List Item) : Lent → Column → Type 0 where
  built : (t : Settings) (l : Lent) (places : List ℕ) (cs : List Entry) (b : Builder)
      → why_start t ≡ accepted → appended cs ≡ xs → Ran (map call cs) (start t l places) b → why_finish b ≡ accepted → Made xs (finished b).lent (column_of b)
  again : (most : ℕ) (out : Lent) {l : Lent} {c : Column} → Made xs l c → why_compact most l c out ≡ accepted → Made xs (compacted most l c out)
      (compact_column most l c)

-- at each row the value or null that was appended
pub record Faithful (xs : List Item) (l : Lent) (c : Column) : Type 0 where
  pub rows : c.rows ≡ length xs
  pub accepts : (i : ℕ) → i < length xs → why_value l c i ≡ accepted
  pub values : (i : ℕ) → i < length xs → value_at l c i ≡ item_bytes (get_or xs i null)
  pub bits : (i : ℕ) → i < length xs → bit_of l c i ≡ answered accepted (is_value (get_or xs i null))

-- rows of two columns compare as what was appended, a null counting as empty
pub record Ordered (xs : List Item) (l : Lent) (c : Column) (m : Lent) (d : Column) : Type 0 where
  pub order : (i j : ℕ) → i < length xs → j < length xs → compare_rows l c i m d j
      ≡ Ok (order_of (cmp (item_bytes (get_or xs i null)) (item_bytes (get_or xs j null))))

-- the third promise
pub record Promise (xs : List Item) : Type 0 where
  pub shows : {l : Lent} {c : Column} → Made xs l c → Faithful xs l c
  pub compares : {l : Lent} {c : Column} {m : Lent} {d : Column} → Made xs l c → Made xs m d → Ordered xs l c m d
  pub bounds : (most : ℕ) (out : Lent) {l : Lent} {c : Column} → Made xs l c → why_compact most l c out ≡ accepted
      → Bounded most (compacted most l c out) (compact_column most l c)
