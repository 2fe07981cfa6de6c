-- What a call says of what it answers and of each buffer that it is lent. Assumes nothing.
use Rattle.std.specs.Prelude.{◌≡◌, List, [], ◌∷◌, ℕ}
use Rattle.bounds.specs.Refusals.{Why}
use Rattle.column.specs.declared.Block.{Block}
use Rattle.builder.specs.declared.State.{State}
use Rattle.builder.specs.declared.Answer.{Answer}
use Rattle.builder.specs.State.{Builder, held, outcome}

-- the two number slices that a table is lent as, written with a table's starts and lengths; past the table they stay
unfoldable pub starts_of : List Block → List ℕ → List ℕ
starts_of [] ss = ss
starts_of (b ∷ t) [] = []
starts_of (b ∷ t) (s ∷ ss) = b.start ∷ starts_of t ss

unfoldable pub lens_of : List Block → List ℕ → List ℕ
lens_of [] ns = ns
lens_of (b ∷ t) [] = []
lens_of (b ∷ t) (n ∷ ns) = b.len ∷ lens_of t ns

abbrev pub answer : Why → State → Answer
answer w s = record { why = w; state = s }

-- the builder that a call leaves
abbrev pub left : (Builder → Why) → (Builder → Builder) → Builder → Builder
left why put b = outcome (why b) put b

-- A call: its verdict beside the state that it leaves, and each buffer at exit, of the buffers at entry.
pub record Does (why : Builder → Why) (put : Builder → Builder) (s : State) (vs bs ss ns ms ps : List ℕ) (r : Answer) (vs' bs' ss' ns' ms' ps' : List
    ℕ) : Type 0 where
  pub answers : r ≡ answer (why (held s vs bs ss ns ms ps)) (left why put (held s vs bs ss ns ms ps)).state
  pub views : vs' ≡ (left why put (held s vs bs ss ns ms ps)).lent.views
  pub bytes : bs' ≡ (left why put (held s vs bs ss ns ms ps)).lent.bytes
  pub starts : ss' ≡ starts_of (left why put (held s vs bs ss ns ms ps)).lent.table ss
  pub lens : ns' ≡ lens_of (left why put (held s vs bs ss ns ms ps)).lent.table ns
  pub nulls : ms' ≡ (left why put (held s vs bs ss ns ms ps)).lent.nulls
  pub places : ps' ≡ (left why put (held s vs bs ss ns ms ps)).places
