-- The walk by the numbers that the code keeps, and what the code does at a row. Assumes nothing.
use Rattle.std.specs.Prelude.{◌≡◌, Bool, true, false, List, ℕ, ◌+◌, ◌*◌, ◌^◌, ◌≤◌, ◌<◌, eqb, length, set, Result, Err, MatchResult}
use Rattle.std.proofs.Math.Seq.{paste}
use Rattle.basis.specs.Pick.{pick, if_le}
use Rattle.views.specs.View.{view_size, short_most, length_of, is_short, long_view}
use Rattle.bounds.specs.Bounds.{row_limit}
use Rattle.bounds.specs.Refusals.{accepted, Why}
use Rattle.bounds.specs.declared.Refusal.{Refusal}
use Rattle.null_bits.specs.Bits.{valid_at}
use Rattle.null_bits.specs.Runs.{put_bits}
use Rattle.column.specs.declared.Column.{Column}
use Rattle.column.specs.Lent.{Lent}
use Rattle.column.specs.Meaning.{row_view}
use Rattle.column.specs.Laid.{flat}
use Rattle.column.specs.Truth.{true_at, lowest}
use Rattle.compaction.specs.declared.Stand.{Stand}
use Rattle.compaction.specs.declared.Judged.{Judged}
use Rattle.compaction.specs.Cut.{Cut, cut_all, cut_lens}
use Rattle.compaction.specs.Compact.{long_of, long_lens, view_by, new_view, new_bytes, why_compact}
use Rattle.laying.specs.Written.{front, put_rows, starts_from, total}

abbrev pub stand : ℕ → ℕ → ℕ → Stand
stand closed base fill = record { closed = closed; base = base; fill = fill }

unfoldable pub stand_of : Cut → Stand
stand_of c = stand (length c.done) (total c.done) c.fill

-- where a value of n bytes goes, and where the walk stands after it
unfoldable pub room_stand : ℕ → ℕ → Stand → Stand
room_stand most n s = if_le (s.fill + n) most s (stand (s.closed + 1) (s.base + s.fill) 0)

abbrev pub add_stand : ℕ → Stand → Stand
add_stand n s = stand s.closed s.base (s.fill + n)

-- a row of n bytes
unfoldable pub row_step : ℕ → ℕ → Stand → Stand
row_step most n s = if_le n short_most s (add_stand n (room_stand most n s))

-- a number written where a block is closed
unfoldable pub closed_at : ℕ → ℕ → Stand → ℕ → List ℕ → List ℕ
closed_at most n s x l = if_le (s.fill + n) most l (set l s.closed x)

-- the walk's numbers stay in a word
pub record Small (n : ℕ) (s : Stand) : Type 0 where
  pub bytes : s.base + s.fill + n < 2 ^ 63
  pub blocks : s.closed < 2 ^ 32

-- a column whose numbers fit, its null map aside
pub record SourceFits (vs ss ns : List ℕ) (c : Column) : Type 0 where
  pub rows : c.first + c.rows ≤ row_limit
  pub views : view_size * (c.first + c.rows) ≤ length vs
  pub starts : c.blocks ≤ length ss
  pub lens : c.blocks ≤ length ns

-- the walk after all rows, each of which is true
pub record Walked (most : ℕ) (l : Lent) (c : Column) (s : Stand) : Type 0 where
  pub truth : (r : ℕ) → r < c.rows → true_at c.kind l c r ≡ true
  pub stand : s ≡ stand_of (cut_all most (long_lens l c c.rows))
  pub small : Small 0 s

-- the first pass: that walk, or the lowest row that isn't true
abbrev pub Measured : ℕ → Lent → Column → Result Stand Refusal → Type 0
Measured most l c m = MatchResult m (Walked most l c) (λ e. (w : Why) → Err e ≡ lowest (true_at c.kind l c) c.rows w)

-- the views have the row, the data the place; the value is long, and its numbers are of four bytes
pub record PlaceIn (vs bs : List ℕ) (r : ℕ) (x : List ℕ) (s : Stand) : Type 0 where
  pub row : view_size * r + view_size ≤ length vs
  pub place : s.base + s.fill + length x ≤ length bs
  pub long : short_most < length x
  pub len : length x < 2 ^ 32
  pub block : s.closed < 2 ^ 32
  pub offset : s.fill < 2 ^ 32

-- what a long value's row writes
pub record LongPut (most r : ℕ) (x : List ℕ) (s : Stand) (vs bs : List ℕ) (t : Stand) (vs' bs' : List ℕ) : Type 0 where
  pub next : t ≡ add_stand (length x) (room_stand most (length x) s)
  pub views : vs' ≡ paste vs (view_size * r) (long_view x (room_stand most (length x) s).closed (room_stand most (length x) s).fill) view_size
  pub bytes : bs' ≡ paste bs (s.base + s.fill) x (length x)

-- the room of a long value's row, and of any row's
pub record LongIn (n : ℕ) (vs bs : List ℕ) (r : ℕ) (s : Stand) : Type 0 where
  pub row : view_size * r + view_size ≤ length vs
  pub place : s.base + s.fill + n ≤ length bs
  pub long : short_most < n
  pub small : s.base + s.fill + n < 2 ^ 32
  pub blocks : s.closed + 1 < 2 ^ 32

pub record RowIn (n : ℕ) (vs bs : List ℕ) (r : ℕ) (s : Stand) : Type 0 where
  pub row : view_size * r + view_size ≤ length vs
  pub long : short_most < n → LongIn n vs bs r s

-- a short row's view is copied, and nothing else changes
pub record ShortPut (r : ℕ) (v : List ℕ) (s : Stand) (vs bs : List ℕ) (t : Stand) (vs' bs' : List ℕ) : Type 0 where
  pub next : t ≡ s
  pub views : vs' ≡ paste vs (view_size * r) v view_size
  pub bytes : bs' ≡ bs

abbrev pub put_by : Bool → ℕ → ℕ → List ℕ → List ℕ → Stand → List ℕ → List ℕ → Stand → List ℕ → List ℕ → Type 0
put_by true most r v x s vs bs t vs' bs' = ShortPut r v s vs bs t vs' bs'
put_by false most r v x s vs bs t vs' bs' = LongPut most r x s vs bs t vs' bs'

abbrev pub RowPut : ℕ → ℕ → List ℕ → List ℕ → Stand → List ℕ → List ℕ → Stand → List ℕ → List ℕ → Type 0
RowPut most r v x s vs bs t vs' bs' = put_by (is_short (length_of v)) most r v x s vs bs t vs' bs'

-- what a row of n bytes writes to the table
unfoldable pub recorded_at : ℕ → ℕ → Stand → ℕ → List ℕ → List ℕ
recorded_at most n s x l = if_le n short_most l (closed_at most n s x l)

pub record TablePut (most n : ℕ) (s : Stand) (ss ns : List ℕ) (t : Stand) (ss' ns' : List ℕ) : Type 0 where
  pub next : t ≡ row_step most n s
  pub starts : ss' ≡ recorded_at most n s s.base ss
  pub lens : ns' ≡ recorded_at most n s s.fill ns

-- the walk's numbers after k rows
abbrev pub stand_at : ℕ → (ℕ → List ℕ) → ℕ → Stand
stand_at most view k = stand_of (cut_all most (long_of (λ r. length_of (view r)) (λ r. length_of (view r)) k))

-- what the passes over rows and over the table have written before row k
pub record Laid (most : ℕ) (view value : ℕ → List ℕ) (vs₀ bs₀ : List ℕ) (k : ℕ) (vs bs : List ℕ) (s : Stand) : Type 0 where
  pub views : vs ≡ put_rows vs₀ (view_by most view value) k
  pub bytes : bs ≡ front bs₀ (flat (long_of (λ r. length_of (view r)) value k))
  pub stand : s ≡ stand_at most view k

pub record CutTabled (most : ℕ) (view : ℕ → List ℕ) (ss₀ ns₀ : List ℕ) (k : ℕ) (ss ns : List ℕ) (s : Stand) : Type 0 where
  pub starts : ss ≡ front ss₀ (starts_from 0 (cut_all most (long_of (λ r. length_of (view r)) (λ r. length_of (view r)) k)).done)
  pub lens : ns ≡ front ns₀ (cut_all most (long_of (λ r. length_of (view r)) (λ r. length_of (view r)) k)).done
  pub stand : s ≡ stand_at most view k

-- the numbers of the whole walk are of four bytes
pub record Few (s : Stand) : Type 0 where
  pub small : s.base + s.fill < 2 ^ 32
  pub count : s.closed + 1 < 2 ^ 32

-- the room that the rows have, and that each is true
pub record WriteIn (most : ℕ) (l : Lent) (c : Column) (vs bs : List ℕ) : Type 0 where
  pub truth : (r : ℕ) → r < c.rows → true_at c.kind l c r ≡ true
  pub rows : view_size * c.rows ≤ length vs
  pub bytes : (stand_at most (row_view l c) c.rows).base + (stand_at most (row_view l c) c.rows).fill ≤ length bs
  pub few : Few (stand_at most (row_view l c) c.rows)

-- the room that the table has, by the walk's last numbers
pub record TableIn (s : Stand) (ss ns : List ℕ) : Type 0 where
  pub starts : 0 < s.base + s.fill → s.closed < length ss
  pub lens : 0 < s.base + s.fill → s.closed < length ns
  pub few : Few s

-- what the first pass counted
pub record CutCounted (most : ℕ) (view : ℕ → List ℕ) (n b t : ℕ) : Type 0 where
  pub blocks : b ≡ length (cut_lens most (long_of (λ r. length_of (view r)) (λ r. length_of (view r)) n))
  pub bytes : t ≡ total (long_of (λ r. length_of (view r)) (λ r. length_of (view r)) n)

-- all of it
pub record Filled (most : ℕ) (l : Lent) (c : Column) (vs bs vs' bs' : List ℕ) : Type 0 where
  pub views : vs' ≡ put_rows vs (new_view most l c) c.rows
  pub bytes : bs' ≡ front bs (new_bytes l c)

pub record CutListed (most : ℕ) (view : ℕ → List ℕ) (n : ℕ) (ss ns ss' ns' : List ℕ) : Type 0 where
  pub starts : ss' ≡ front ss (starts_from 0 (cut_lens most (long_of (λ r. length_of (view r)) (λ r. length_of (view r)) n)))
  pub lens : ns' ≡ front ns (cut_lens most (long_of (λ r. length_of (view r)) (λ r. length_of (view r)) n))

-- the blocks of a walk, by the code's numbers
unfoldable pub blocks_by : Stand → ℕ
blocks_by s = pick (eqb (s.base + s.fill) 0) 0 (s.closed + 1)

-- the new blocks where the call is accepted, and why it isn't; nothing is written yet
pub record Counted (most : ℕ) (l : Lent) (c : Column) (out : Lent) (j : Judged) : Type 0 where
  pub verdict : accepted ≡ why_compact most l c out
  pub count : CutCounted most (row_view l c) c.rows j.blocks j.bytes

abbrev pub Judges : ℕ → Lent → Column → Lent → Result Judged Refusal → Type 0
Judges most l c out r = MatchResult r (Counted most l c out) (λ e. Err e ≡ why_compact most l c out)

-- the map written anew, if there is one
unfoldable pub map_by : List ℕ → List ℕ → Bool → ℕ → ℕ → List ℕ
map_by ms nulls mapped first rows = pick mapped (put_bits ms 0 (λ r. valid_at nulls mapped (first + r)) rows) ms
