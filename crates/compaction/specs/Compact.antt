-- Compaction over lent buffers: why it refuses, what it writes into buffers of its own, the column that it answers. Assumes nothing.
use Rattle.std.specs.Prelude.{◌≡◌, not, List, [], ◌∷◌, ◌++◌, ℕ, zero, suc, ltb, length}
use Rattle.basis.specs.Pick.{pick}
use Rattle.null_bits.specs.Runs.{put_bits}
use Rattle.views.specs.View.{length_of, is_short, long_view}
use Rattle.bounds.specs.Bounds.{most_compaction}
use Rattle.bounds.specs.Refusals.{refuse, if_accepted, Why}
use Rattle.bounds.specs.declared.Refusal.TheVariants.{Setting, Fit}
use Rattle.column.specs.declared.Column.{Column}
use Rattle.column.specs.Lent.{Lent, buffers, lent, table_of, fits}
use Rattle.column.specs.Meaning.{row_view, blocks_of, shown, row_valid}
use Rattle.column.specs.Truth.{true_at, lowest}
use Rattle.column.specs.Laid.{flat}
use Rattle.compaction.specs.declared.Outcome.{Outcome}
use Rattle.compaction.specs.Cut.{Cut, cut_place, cut_lens}
use Rattle.laying.specs.Rooms.{why_rooms}
use Rattle.laying.specs.Written.{front, put_rows, starts_from, total}

-- the view of a value at a place
abbrev pub placed_by : Cut → List ℕ → List ℕ
placed_by p x = long_view x (length p.done) p.fill

-- what f says of the long ones among the first n rows
unfoldable pub long_of : {A : Type 0} → (ℕ → ℕ) → (ℕ → A) → ℕ → List A
long_of len f zero = []
long_of len f (suc n) = long_of len f n ++ pick (is_short (len n)) [] (f n ∷ [])

abbrev pub len_at : Lent → Column → ℕ → ℕ
len_at l c r = length_of (row_view l c r)

-- the lengths of the long values of the first n rows, null ones too, and the values
abbrev pub long_lens : Lent → Column → ℕ → List ℕ
long_lens l c n = long_of (len_at l c) (len_at l c) n

abbrev pub row_shown : Lent → Column → ℕ → List ℕ
row_shown l c r = shown (blocks_of l c.blocks) (row_view l c r)

abbrev pub long_values : Lent → Column → ℕ → List (List ℕ)
long_values l c n = long_of (len_at l c) (row_shown l c) n

-- row r's view: a short one as it is, a long one by its place among the long ones before it
unfoldable pub view_by : ℕ → (ℕ → List ℕ) → (ℕ → List ℕ) → ℕ → List ℕ
view_by most view value r = pick (is_short (length_of (view r))) (view r) (placed_by (cut_place most (long_of (λ q. length_of (view q)) (λ q. length_of (view q))
    r) (length_of (view r))) (value r))

abbrev pub new_view : ℕ → Lent → Column → ℕ → List ℕ
new_view most l c = view_by most (row_view l c) (row_shown l c)

abbrev pub new_lens : ℕ → Lent → Column → List ℕ
new_lens most l c = cut_lens most (long_lens l c c.rows)

abbrev pub new_bytes : Lent → Column → List ℕ
new_bytes l c = flat (long_values l c c.rows)

-- 1, 2, 11, 5, 6, 7; the new map counts only if the column has one
unfoldable pub why_compact : ℕ → Lent → Column → Lent → Why
why_compact most l c out =
    refuse Setting (ltb most_compaction most)
    (refuse Fit (not (fits l c))
    (lowest (true_at c.kind l c) c.rows
    (why_rooms c.mapped c.rows (length (new_lens most l c)) (total (long_lens l c c.rows)) out)))

-- blocks end to end from 0, views and bits from row 0; a map exactly when the column has one
unfoldable pub compacted : ℕ → Lent → Column → Lent → Lent
compacted most l c out =
    buffers
    (put_rows out.views (new_view most l c) c.rows)
    (front out.bytes (new_bytes l c))
    (front out.table (table_of (starts_from 0 (new_lens most l c)) (new_lens most l c)))
    (pick c.mapped (put_bits out.nulls 0 (row_valid l c) c.rows) out.nulls)

abbrev pub compact_column : ℕ → Lent → Column → Column
compact_column most l c = record { first = 0; rows = c.rows; blocks = length (new_lens most l c); kind = c.kind; mapped = c.mapped }

-- the answer; refused, the column as it came
unfoldable pub compact_of : ℕ → Lent → Column → Lent → Outcome
compact_of most l c out = record { why = why_compact most l c out; column = if_accepted (why_compact most l c out) (compact_column most l c) c }

-- the whole call over output buffers of five slices: the answer, and each of them at exit
pub record Wrote (most : ℕ) (l : Lent) (c : Column) (vs bs ss ns ms : List ℕ) (r : Outcome) (vs' bs' ss' ns' ms' : List ℕ) : Type 0 where
  pub answer : r ≡ compact_of most l c (lent vs bs ss ns ms)
  pub views : vs' ≡ if_accepted (why_compact most l c (lent vs bs ss ns ms)) (compacted most l c (lent vs bs ss ns ms)).views vs
  pub bytes : bs' ≡ if_accepted (why_compact most l c (lent vs bs ss ns ms)) (compacted most l c (lent vs bs ss ns ms)).bytes bs
  pub starts : ss' ≡ if_accepted (why_compact most l c (lent vs bs ss ns ms)) (front ss (starts_from 0 (new_lens most l c))) ss
  pub lens : ns' ≡ if_accepted (why_compact most l c (lent vs bs ss ns ms)) (front ns (new_lens most l c)) ns
  pub nulls : ms' ≡ if_accepted (why_compact most l c (lent vs bs ss ns ms)) (compacted most l c (lent vs bs ss ns ms)).nulls ms
