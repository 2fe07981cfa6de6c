-- The third promise over the calls' own contracts: any answers and any buffers at exit that meet what `start`, the value and null calls, `finish` and `compact`
-- ensure. Nothing here names what a call does, but by its contract. Assumes nothing.
use Rattle.bounds.specs.Refusals.{accepted}
use Rattle.std.specs.Prelude.{◌≡◌, List, map, ℕ}
use Rattle.column.specs.declared.Kind.{Kind}
use Rattle.column.specs.declared.Column.{Column}
use Rattle.column.specs.Lent.{Lent, lent}
use Rattle.column.specs.Laid.{rows_of}
use Rattle.validity.specs.Check.{why_invalid}
use Rattle.builder.specs.declared.Settings.{Settings}
use Rattle.builder.specs.declared.Answer.{Answer}
use Rattle.finishing.specs.declared.Finished.{Finished}
use Rattle.builder.specs.Start.{why_start, start_state, start_places}
use Rattle.builder.specs.Finish.{finish_column}
use Rattle.builder.specs.Does.{answer}
use Rattle.compaction.specs.declared.Outcome as compaction
use Rattle.compaction.specs.Compact.{Wrote}
use Rattle.compaction.specs.Bounded.{Bounded}
use Rattle.offsets.specs.declared.Outcome as offsets
use Rattle.offsets.specs.Offsets.{Source, Converted, rows_in, value_in, valid_row}
use Rattle.promise.specs.Calls.{Cell, cell, finish, Item, Entry, call, appended}
use Rattle.promise.specs.Coded.{Slices, held_in, CallMet, Coded}
use Rattle.promise.specs.Made.{Made, Faithful, Ordered}
use Rattle.promise.specs.Kept.{Filed}

-- the five slices of a column
pub record Buffers : Type 0 where
  pub views : List ℕ
  pub bytes : List ℕ
  pub starts : List ℕ
  pub lens : List ℕ
  pub nulls : List ℕ

abbrev pub lent_as : Buffers → Lent
lent_as b = lent b.views b.bytes b.starts b.lens b.nulls

-- those of a builder's slices
abbrev pub column_in : Slices → Buffers
column_in h = record { views = h.views; bytes = h.bytes; starts = h.starts; lens = h.lens; nulls = h.nulls }

-- an accepted start; its state and places are the first call's, with slices of any content
pub record StartMet (t : Settings) (ps : List ℕ) (r : Answer) (ps' : List ℕ) (h : Slices) : Type 0 where
  pub answers : r ≡ answer (why_start t) (start_state t)
  pub cleared : ps' ≡ start_places t ps
  pub accepted : r.why ≡ accepted
  pub state : h.state ≡ r.state
  pub places : h.places ≡ ps'

-- an accepted finish
pub record FinishMet (h : Slices) (r : Finished) (h' : Slices) : Type 0 where
  pub met : CallMet finish h r.answer h'
  pub column : r.column ≡ finish_column (held_in h)

-- an accepted compaction into buffers o, which it leaves as o'
pub record CompactMet (most : ℕ) (b : Buffers) (c : Column) (o : Buffers) (r : compaction.Outcome) (o' : Buffers) : Type 0 where
  pub wrote : Wrote most (lent_as b) c o.views o.bytes o.starts o.lens o.nulls r o'.views o'.bytes o'.starts o'.lens o'.nulls
  pub accepted : r.why ≡ accepted

-- an accepted conversion of an offset column
pub record ConvertMet (s : Source) (k : Kind) (o : Buffers) (r : offsets.Outcome) (o' : Buffers) : Type 0 where
  pub converted : Converted 4 s k o.views o.bytes o.starts o.lens o.nulls r o'.views o'.bytes o'.starts o'.lens o'.nulls
  pub accepted : r.why ≡ accepted

-- a column that functions answered for a list of values and nulls: start, value and null calls, finish; and compactions, any number of times
pub data Answered (xs : List Item) : Buffers → Column → Type 0 where
  finished_by : (t : Settings) (ps : List ℕ) (r : Answer) (ps' : List ℕ) (h : Slices) → StartMet t ps r ps' h
      → (cs : List Entry) → appended cs ≡ xs → (e : Slices) → Coded (map call cs) h e
      → (f : Finished) (e' : Slices) → FinishMet e f e' → Answered xs (column_in e') f.column
  compacted_by : (most : ℕ) (o : Buffers) (r : compaction.Outcome) (o' : Buffers) {b : Buffers} {c : Column} → Answered xs b c → CompactMet most b c o r o'
      → Answered xs o' r.column

-- what is put in the rows of an offset column: a null one shows nothing
abbrev pub cells_of : Source → List Cell
cells_of s = rows_of (λ r. cell (value_in 4 s r) (valid_row 4 s r)) (rows_in 4 s)

pub record KeptByContracts (xs : List Item) : Type 0 where
  -- the third promise
  pub shows : {b : Buffers} {c : Column} → Answered xs b c → Faithful xs (lent_as b) c
  pub compares : {b : Buffers} {c : Column} {d : Buffers} {e : Column} → Answered xs b c → Answered xs d e → Ordered xs (lent_as b) c (lent_as d) e
  pub bounds : (most : ℕ) (o : Buffers) (r : compaction.Outcome) (o' : Buffers) {b : Buffers} {c : Column} → Answered xs b c
      → CompactMet most b c o r o' → Bounded most (lent_as o') r.column
  -- and every such column passes the check
  pub checks : {b : Buffers} {c : Column} → Answered xs b c → why_invalid (lent_as b) c ≡ accepted

-- what compaction answers continues what was made and filed by any calls, and an offset column is filed
pub record Continued : Type 0 where
  pub made : (xs : List Item) (most : ℕ) (b : Buffers) (c : Column) (o : Buffers) (r : compaction.Outcome) (o' : Buffers) → Made xs (lent_as b) c
      → CompactMet most b c o r o'
      → Made xs (lent_as o') r.column
  pub filed : (xs : List Cell) (most : ℕ) (b : Buffers) (c : Column) (o : Buffers) (r : compaction.Outcome) (o' : Buffers) → Filed xs (lent_as b) c
      → CompactMet most b c o r o'
      → Filed xs (lent_as o') r.column
  pub offsets : (s : Source) (k : Kind) (o : Buffers) (r : offsets.Outcome) (o' : Buffers) → ConvertMet s k o r o' → Filed (cells_of s) (lent_as o') r.column
