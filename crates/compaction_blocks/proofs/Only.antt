-- No second answer to a compaction over records: what it promises is the fact that it looks like, by the clauses that the toolchain makes of the function,
-- and that fact has one answer, and one content at exit of each buffer that is lent to be written. Assumes nothing.
use mathlib.Core.Path.{◌≡◌, refl, sym, ◌∙◌}
use mathlib.Core.List.{List}
use Prim.Native.Nat.{ℕ}
use seplogic.Ra.Ura.{Ura}
use base.Logic.{SProp}
use base.Fml.{Lft}
use prog.Memory.{Memory}
use prog.Routine.{Routine}
use types.Logic.{Logic}
use contract.Monad.{Fun, fact}
use denote.Bor.{Bor}
use denote.MutBor.{MutBor}
use Rattle.column.specs.declared.Block.{Block}
use Rattle.column.specs.declared.Column.{Column}
use Rattle.column.specs.Lent.{buffers}
use Rattle.compaction.specs.declared.Outcome.{Outcome}
use Rattle.compaction_blocks.specs.Compacts.{Compacts}
use Rattle.compaction_blocks.specs.contracts.compact as compact

module _ {M : Type 1} {𝓤 : Ura M} (𝓛 : Logic 𝓤) (mem : Memory → SProp 𝓤) (run : Routine → Fun 𝓤) (κ0 κ1 κ2 κ3 κ4 : Lft)
    (views bytes : Bor (List ℕ)) (table : Bor (List Block)) (nulls : Bor (List ℕ)) (c : Column) (most : ℕ) (newviews newbytes : MutBor (List ℕ))
    (newtable : MutBor (List Block)) (newnulls : MutBor (List ℕ)) where
  abbrev pub compact-fact : Outcome → MutBor (List ℕ) → MutBor (List ℕ) → MutBor (List Block) → MutBor (List ℕ) → Type 0
  compact-fact z vs bs t ms =
      Compacts most (buffers views.now bytes.now table.now nulls.now) c (buffers newviews.now newbytes.now newtable.now newnulls.now) z
      vs.now bs.now t.now ms.now

  pub compact-says : (z : Outcome) (vs bs : MutBor (List ℕ)) (t : MutBor (List Block)) (ms : MutBor (List ℕ))
      → (compact.clauses 𝓛 mem run (κ0, (κ1, (κ2, (κ3, (κ4, tt)))))
      (views, (bytes, (table, (nulls, (c, (most, (newviews, (newbytes, (newtable, (newnulls, tt))))))))))).ensures tt z
      (views, (bytes, (table, (nulls, (c, (most, (vs, (bs, (t, (ms, tt))))))))))
      ≡ fact 𝓤 (compact-fact z vs bs t ms)
  compact-says z vs bs t ms = refl

  pub compact-one : (z z' : Outcome) (vs vs' bs bs' : MutBor (List ℕ)) (t t' : MutBor (List Block)) (ms ms' : MutBor (List ℕ))
      → compact-fact z vs bs t ms → compact-fact z' vs' bs' t' ms'
      → (z ≡ z') × (vs.now ≡ vs'.now) × (bs.now ≡ bs'.now) × (t.now ≡ t'.now) × (ms.now ≡ ms'.now)
  compact-one z z' vs vs' bs bs' t t' ms ms' p q = (
    p.answer ∙ sym q.answer,
    p.views ∙ sym q.views,
    p.bytes ∙ sym q.bytes,
    p.table ∙ sym q.table,
    p.nulls ∙ sym q.nulls,
  )
