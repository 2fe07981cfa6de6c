-- After any calls of a builder every row shows what was put there: while it is built, in the column that it finishes, and in every compaction of that. So it is
-- with an offset column. Assumes nothing.
use Rattle.bounds.specs.Refusals.{accepted, answered}
use Rattle.std.specs.Prelude.{◌≡◌, List, [], ◌∷◌, ◌++◌, ℕ, ◌<◌, length, get_or, Ok}
use Rattle.order.specs.Order.{cmp}
use Rattle.column.specs.declared.Kind.{Kind}
use Rattle.column.specs.declared.Column.{Column}
use Rattle.column.specs.Lent.{Lent}
use Rattle.column.specs.Meaning.{blocks_of}
use Rattle.column.specs.Laid.{rows_of}
use Rattle.reading.specs.Reading.{why_value, value_at, bit_of}
use Rattle.validity.specs.Check.{why_invalid}
use Rattle.comparison.specs.Compare.{order_of, compare_rows}
use Rattle.builder.specs.declared.Settings.{Settings}
use Rattle.builder.specs.State.{Builder, blocks_now}
use Rattle.builder.specs.Start.{why_start, start}
use Rattle.builder.specs.Others.{why_block, put_block, why_column, put_column}
use Rattle.builder.specs.Get.{column_of, why_get, get_value}
use Rattle.builder.specs.Finish.{why_finish, copied, finished}
use Rattle.compaction.specs.Compact.{why_compact, compacted, compact_column}
use Rattle.offsets.specs.Offsets.{Source, rows_in, valid_row, value_in, why_offsets, from_offsets, offset_column}
use Rattle.promise.specs.Calls.{Cell, cell, no_value, Call, adds_values, adds_null, adds_block, adds_view, adds_column, finish_copy, finish, why, put, Ran, rows_after}

-- while it is built: each row can be got, and is what was put there; neither finish is refused, and both leave the same buffers
pub record Keeps (b : Builder) (xs : List Cell) : Type 0 where
  pub rows : b.state.rows ≡ length xs
  pub accepts : (r : ℕ) → r < length xs → why_get b r ≡ accepted
  pub gets : (r : ℕ) → r < length xs → get_value b r ≡ (get_or xs r no_value).bytes
  pub finishes : why_finish b ≡ accepted
  pub copies : (copied b).lent ≡ (finished b).lent

-- the columns of xs: finished after calls that put xs in the rows, a finish among the calls too, under any settings and over buffers of any content;
-- from the offset layout, a null row showing nothing; and compacted, again and again, into buffers of their own at any maximum
pub data Filed (xs : List Cell) : Lent → Column → Type 0 where
  done : (t : Settings) (l : Lent) (places : List ℕ) (cs : List Call) (b : Builder) → why_start t ≡ accepted → Ran cs (start t l places) b
      → rows_after cs (start t l places) [] ≡ xs → Filed xs (finished b).lent (column_of b)
  converted : (s : Source) (k : Kind) (out : Lent) → why_offsets 4 s k out ≡ accepted → rows_of (λ r. cell (value_in 4 s r) (valid_row 4 s r)) (rows_in 4 s) ≡ xs
      → Filed xs (from_offsets 4 s out) (offset_column 4 s k)
  again : (most : ℕ) (out : Lent) {l : Lent} {c : Column} → Filed xs l c → why_compact most l c out ≡ accepted → Filed xs (compacted most l c out)
      (compact_column most l c)

-- each row of a column shows its cell, bytes and bit, and the column passes the check
pub record Shown (xs : List Cell) (l : Lent) (c : Column) : Type 0 where
  pub rows : c.rows ≡ length xs
  pub accepts : (r : ℕ) → r < length xs → why_value l c r ≡ accepted
  pub bytes : (r : ℕ) → r < length xs → value_at l c r ≡ (get_or xs r no_value).bytes
  pub bits : (r : ℕ) → r < length xs → bit_of l c r ≡ answered accepted (get_or xs r no_value).valid
  pub checks : why_invalid l c ≡ accepted

-- a builder that calls from a start left
pub data Reached : Builder → Type 0 where
  by_calls : (t : Settings) (l : Lent) (places : List ℕ) (cs : List Call) (b : Builder) → why_start t ≡ accepted → Ran cs (start t l places) b → Reached b

-- what the completed blocks hold, which views are made of
abbrev pub completed : Builder → List (List ℕ)
completed b = blocks_of b.lent b.state.blocks

-- those of them that a call leaves: all, unless it is finish
abbrev pub leaves : Call → Builder → List (List ℕ)
leaves (adds_values n x) b = completed b
leaves adds_null b = completed b
leaves (adds_block x) b = completed b
leaves (adds_view k offset n) b = completed b
leaves (adds_column l c) b = completed b
leaves finish_copy b = completed b
leaves finish b = []

pub record Kept : Type 0 where
  pub keeps : (t : Settings) (l : Lent) (places : List ℕ) (cs : List Call) (b : Builder) → why_start t ≡ accepted → Ran cs (start t l places) b
      → Keeps b (rows_after cs (start t l places) [])
  pub shows : (xs : List Cell) {l : Lent} {c : Column} → Filed xs l c → Shown xs l c
  -- rows of any two columns compare, by their views, as the bytes that were put there
  pub compares : (xs ys : List Cell) {l : Lent} {c : Column} {m : Lent} {d : Column} → Filed xs l c → Filed ys m d → (i j : ℕ) → i < length xs → j < length ys
      → compare_rows l c i m d j ≡ Ok (order_of (cmp (get_or xs i no_value).bytes (get_or ys j no_value).bytes))
  -- no call changes a completed block; a block call's is the next after all that there were, and holds its bytes; so it is with a column's
  pub stay : (b : Builder) → Reached b → (c : Call) → why c b ≡ accepted → (ys : List (List ℕ)) × (completed (put c b) ≡ leaves c b ++ ys)
  pub block : (b : Builder) → Reached b → (x : List ℕ) → why_block b x ≡ accepted → completed (put_block x b) ≡ blocks_now b ++ x ∷ []
  pub column : (b : Builder) → Reached b → (l : Lent) (c : Column) → why_column l c b ≡ accepted → completed (put_column l c b)
      ≡ blocks_now b ++ blocks_of l c.blocks
