-- What a call says over a table of records: of its answer, and of each buffer that it is lent. Assumes nothing.
use Rattle.std.specs.Prelude.{◌≡◌, List, ℕ, set}
use Rattle.basis.specs.Pick.{pick}
use Rattle.bounds.specs.Refusals.{Why}
use Rattle.column.specs.declared.Block.{Block}
use Rattle.column.specs.Lent.{buffers, block}
use Rattle.builder.specs.declared.State.{State}
use Rattle.builder.specs.declared.Answer.{Answer}
use Rattle.builder.specs.State.{Builder, builder, is_open}
use Rattle.builder.specs.Does.{answer, left}

-- a builder whose block table is lent as records
abbrev pub filed : State → List ℕ → List ℕ → List Block → List ℕ → List ℕ → Builder
filed s views bytes table nulls places = builder s (buffers views bytes table nulls) places

-- the table after the open block's record, if any, is written
unfoldable pub open_table : State → List Block → List Block
open_table s t = pick (is_open s) (set t s.blocks (block s.base s.fill)) t

-- A call: its verdict beside the state that it leaves, and each buffer at exit, of the buffers at entry.
pub record Files (why : Builder → Why) (put : Builder → Builder) (s : State) (vs bs : List ℕ) (t : List Block) (ms ps : List ℕ) (r : Answer)
    (vs' bs' : List ℕ) (t' : List Block) (ms' ps' : List ℕ) : Type 0 where
  pub answers : r ≡ answer (why (filed s vs bs t ms ps)) (left why put (filed s vs bs t ms ps)).state
  pub views : vs' ≡ (left why put (filed s vs bs t ms ps)).lent.views
  pub bytes : bs' ≡ (left why put (filed s vs bs t ms ps)).lent.bytes
  pub table : t' ≡ (left why put (filed s vs bs t ms ps)).lent.table
  pub nulls : ms' ≡ (left why put (filed s vs bs t ms ps)).lent.nulls
  pub places : ps' ≡ (left why put (filed s vs bs t ms ps)).places
