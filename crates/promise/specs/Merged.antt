-- Which row's view a long value takes, said by the calls alone: no hash, no merge table. Assumes nothing.
use Rattle.bounds.specs.Refusals.{accepted}
use Rattle.std.specs.Prelude.{◌≡◌, true, List, [], ◌∷◌, ◌++◌, ℕ, zero, suc, ◌<◌, length, get_or}
use Rattle.std.proofs.Math.Option.{Option, none, some}
use Rattle.basis.specs.Pick.{pick}
use Rattle.views.specs.View.{short_most, is_short, view_at}
use Rattle.merging.specs.Earliest.{earliest}
use Rattle.column.specs.Lent.{Lent}
use Rattle.builder.specs.declared.Merging.{Merging}
use Rattle.builder.specs.declared.Settings.{Settings}
use Rattle.builder.specs.State.{Builder, builder, make_room, add_rows}
use Rattle.builder.specs.Start.{why_start, start}
use Rattle.builder.specs.Values.{merges, why_values, store, put_values}
use Rattle.promise.specs.Calls.{Cell, no_value, Call, adds_values, adds_null, adds_block, adds_view, adds_column, finish_copy, finish, put, cells_after, Ran}

-- what is remembered of the calls since start or finish: what was put in each row, and the rows that a value call stored
pub record Memo : Type 0 where
  pub rows : List Cell
  pub stored : List ℕ

abbrev pub memo : List Cell → List ℕ → Memo
memo rows stored = record { rows = rows; stored = stored }

abbrev pub shown_by : Memo → ℕ → List ℕ
shown_by k r = (get_or k.rows r no_value).bytes

-- the earliest row that a value call stored with equal bytes, for a value that merges
abbrev pub target : Merging → Memo → List ℕ → Option ℕ
target m k x = pick (merges m (length x)) (earliest (shown_by k) x k.stored) none

-- without a target the next row is stored
abbrev pub stored_by : Option ℕ → ℕ → List ℕ → List ℕ
stored_by (some r) next rs = rs
stored_by none next rs = rs ++ next ∷ []

-- copies of a row, short values, nulls, and the rows of views and columns are not stored rows; finish forgets them all
abbrev pub stored_after : Merging → Call → Memo → List ℕ
stored_after m (adds_values zero x) k = k.stored
stored_after m (adds_values (suc n) x) k = pick (is_short (length x)) k.stored (stored_by (target m k x) (length k.rows) k.stored)
stored_after m adds_null k = k.stored
stored_after m (adds_block x) k = k.stored
stored_after m (adds_view block offset n) k = k.stored
stored_after m (adds_column l c) k = k.stored
stored_after m finish_copy k = k.stored
stored_after m finish k = []

abbrev pub recall : Merging → Call → Builder → Memo → Memo
recall m c b k = memo (cells_after c b k.rows) (stored_after m c k)

unfoldable pub recall_all : Merging → List Call → Builder → Memo → Memo
recall_all m [] b k = k
recall_all m (c ∷ cs) b k = recall_all m cs (put c b) (recall m c b k)

-- row r of a builder again, n times
abbrev pub again : ℕ → ℕ → Builder → Builder
again n r b = add_rows n (view_at b.lent.views r) true b

-- x, n times and once more: it takes the view of its target, and no other byte than its rows' is written; without a target it is laid once and its
-- first row shows where, the others being copies of that. The merge table is left open.
abbrev pub Takes : Option ℕ → ℕ → List ℕ → Builder → Type 0
Takes (some r) n x b = put_values (suc n) x b ≡ again (suc n) r b
Takes none n x b = (places : List ℕ) × (put_values (suc n) x b ≡ again n b.state.rows (store x (make_room (length x) (builder b.state b.lent places))))

-- after any calls from a start, a finish among them too, under any settings and over buffers of any content
pub record Merged : Type 0 where
  pub takes : (t : Settings) (l : Lent) (places : List ℕ) (cs : List Call) (b : Builder) → why_start t ≡ accepted → Ran cs (start t l places) b
      → (n : ℕ) (x : List ℕ) → short_most < length x → why_values (suc n) b x ≡ accepted
      → Takes (target t.merging (recall_all t.merging cs (start t l places) (memo [] [])) x) n x b
