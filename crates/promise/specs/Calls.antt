-- The calls of a builder, a run of calls none of which was refused, and what was put in each row. Assumes nothing.
use Rattle.std.specs.Prelude.{◌≡◌, Bool, true, false, List, [], ◌∷◌, ◌++◌, ℕ, replicate}
use Rattle.bounds.specs.Refusals.{Why, accepted}
use Rattle.column.specs.declared.Column.{Column}
use Rattle.column.specs.Lent.{Lent}
use Rattle.column.specs.Meaning.{shown_at, row_valid}
use Rattle.column.specs.Laid.{rows_of}
use Rattle.builder.specs.State.{Builder}
use Rattle.builder.specs.Values.{why_values, put_values, why_null, put_null}
use Rattle.builder.specs.Others.{why_block, put_block, viewed, why_view, put_view, why_column, put_column}
use Rattle.builder.specs.Finish.{why_finish, copied, finished}

-- every call that changes a builder; a value once is a value one time, a column comes with its own buffers
pub data Call : Type 0 where
  adds_values : ℕ → List ℕ → Call
  adds_null : Call
  adds_block : List ℕ → Call
  -- n bytes at an offset of completed block k
  adds_view : ℕ → ℕ → ℕ → Call
  adds_column : Lent → Column → Call
  finish_copy : Call
  finish : Call

abbrev pub why : Call → Builder → Why
why (adds_values n x) b = why_values n b x
why adds_null b = why_null b
why (adds_block x) b = why_block b x
why (adds_view k offset n) b = why_view b k offset n
why (adds_column l c) b = why_column l c b
why finish_copy b = why_finish b
why finish b = why_finish b

abbrev pub put : Call → Builder → Builder
put (adds_values n x) b = put_values n x b
put adds_null b = put_null b
put (adds_block x) b = put_block x b
put (adds_view k offset n) b = put_view k offset n b
put (adds_column l c) b = put_column l c b
put finish_copy b = copied b
put finish b = finished b

-- each call takes the state and buffers as the call before left them, and none is refused
pub data Ran : List Call → Builder → Builder → Type 0 where
  none : {b : Builder} → Ran [] b b
  more : {c : Call} {cs : List Call} {b e : Builder} → why c b ≡ accepted → Ran cs (put c b) e → Ran (c ∷ cs) b e

-- what is put in a row: its bytes, and its bit, which a null has not
pub record Cell : Type 0 where
  pub bytes : List ℕ
  pub valid : Bool

abbrev pub cell : List ℕ → Bool → Cell
cell x valid = record { bytes = x; valid = valid }

abbrev pub bytes_in : Cell → List ℕ
bytes_in x = x.bytes

abbrev pub valid_in : Cell → Bool
valid_in x = x.valid

-- a null shows nothing
abbrev pub no_value : Cell
no_value = cell [] false

-- what row r of a column shows there, with its bit
abbrev pub cell_of : Lent → Column → ℕ → Cell
cell_of l c r = cell (shown_at l c r) (row_valid l c r)

-- what a call puts in the rows that it adds: a value its bytes, a view the named part of its block, a column what its rows show
abbrev pub cells_added : Call → Builder → List Cell
cells_added (adds_values n x) b = replicate n (cell x true)
cells_added adds_null b = no_value ∷ []
cells_added (adds_block x) b = []
cells_added (adds_view k offset n) b = cell (viewed b k offset n) true ∷ []
cells_added (adds_column l c) b = rows_of (cell_of l c) c.rows
cells_added finish_copy b = []
cells_added finish b = []

-- only finish takes the rows before away
abbrev pub cells_kept : Call → List Cell → List Cell
cells_kept (adds_values n x) xs = xs
cells_kept adds_null xs = xs
cells_kept (adds_block x) xs = xs
cells_kept (adds_view k offset n) xs = xs
cells_kept (adds_column l c) xs = xs
cells_kept finish_copy xs = xs
cells_kept finish xs = []

abbrev pub cells_after : Call → Builder → List Cell → List Cell
cells_after c b xs = cells_kept c xs ++ cells_added c b

-- what was put in the rows by calls from a builder on, whose rows had xs in them
unfoldable pub rows_after : List Call → Builder → List Cell → List Cell
rows_after [] b xs = xs
rows_after (c ∷ cs) b xs = rows_after cs (put c b) (cells_after c b xs)

-- ---- values and nulls alone

pub data Item : Type 0 where
  value : List ℕ → Item
  null : Item

-- a null counts as empty
abbrev pub item_bytes : Item → List ℕ
item_bytes (value x) = x
item_bytes null = []

abbrev pub is_value : Item → Bool
is_value (value x) = true
is_value null = false

-- what is put in the row of one
abbrev pub cell_for : Item → Cell
cell_for (value x) = cell x true
cell_for null = no_value

-- the value and null calls
pub data Entry : Type 0 where
  values : ℕ → List ℕ → Entry
  nulls : Entry

abbrev pub call : Entry → Call
call (values n x) = adds_values n x
call nulls = adds_null

unfoldable pub appended : List Entry → List Item
appended [] = []
appended (values n x ∷ cs) = replicate n (value x) ++ appended cs
appended (nulls ∷ cs) = null ∷ appended cs
