-- The offset column over a block table of records: the answer, and each buffer at exit. Assumes nothing.
use Rattle.std.specs.Prelude.{◌≡◌, List, ℕ}
use Rattle.bounds.specs.Refusals.{if_accepted}
use Rattle.column.specs.declared.Block.{Block}
use Rattle.column.specs.declared.Kind.{Kind}
use Rattle.column.specs.Lent.{buffers}
use Rattle.offsets.specs.declared.Outcome.{Outcome}
use Rattle.offsets.specs.Offsets.{Source, why_offsets, from_offsets, offsets_of}

-- the answer and the buffers beside the table
pub record Apart (s : Source) (k : Kind) (vs bs : List ℕ) (t : List Block) (ms : List ℕ) (r : Outcome) (vs' bs' ms' : List ℕ) : Type 0 where
  pub answer : r ≡ offsets_of 4 s k (buffers vs bs t ms)
  pub views : vs' ≡ if_accepted (why_offsets 4 s k (buffers vs bs t ms)) (from_offsets 4 s (buffers vs bs t ms)).views vs
  pub bytes : bs' ≡ if_accepted (why_offsets 4 s k (buffers vs bs t ms)) (from_offsets 4 s (buffers vs bs t ms)).bytes bs
  pub nulls : ms' ≡ if_accepted (why_offsets 4 s k (buffers vs bs t ms)) (from_offsets 4 s (buffers vs bs t ms)).nulls ms

-- the whole call
pub record Tabled (s : Source) (k : Kind) (vs bs : List ℕ) (t : List Block) (ms : List ℕ) (r : Outcome) (vs' bs' : List ℕ) (t' : List Block)
    (ms' : List ℕ) : Type 0 where
  pub apart : Apart s k vs bs t ms r vs' bs' ms'
  pub table : t' ≡ if_accepted (why_offsets 4 s k (buffers vs bs t ms)) (from_offsets 4 s (buffers vs bs t ms)).table t
