-- No second answer to the offset column over records: what it promises is the fact that it looks like, by the clauses that the toolchain makes of
-- the source, and that fact has one answer, and one content at exit of each buffer that is lent to be written. Assumes nothing.
use mathlib.Core.Path.{◌≡◌, refl, sym, ◌∙◌}
use mathlib.Core.List.{List}
use Prim.Native.Nat.{ℕ}
use seplogic.Ra.Ura.{Ura}
use base.Logic.{SProp}
use base.Fml.{Lft}
use prog.Memory.{Memory}
use prog.Routine.{Routine}
use types.Logic.{Logic}
use contract.Monad.{Fun, fact}
use denote.Bor.{Bor}
use denote.MutBor.{MutBor}
use Rattle.column.specs.declared.Block.{Block}
use Rattle.offsets.specs.declared.Outcome.{Outcome}
use Rattle.offsets.specs.Offsets.{source}
use Rattle.output_blocks.specs.declared.Layout.{Layout}
use Rattle.output_blocks.specs.Tabled.{Tabled}
use Rattle.output_blocks.specs.contracts.from_offsets as from_offsets

module _ {M : Type 1} {𝓤 : Ura M} (𝓛 : Logic 𝓤) (mem : Memory → SProp 𝓤) (run : Routine → Fun 𝓤) (κ0 κ1 κ2 κ3 κ4 κ5 κ6 : Lft)
    (offsets bytes nulls : Bor (List ℕ)) (how : Layout) (newviews newbytes : MutBor (List ℕ)) (table : MutBor (List Block)) (newnulls : MutBor (List ℕ)) where
  abbrev pub from-offsets-fact : Outcome → MutBor (List ℕ) → MutBor (List ℕ) → MutBor (List Block) → MutBor (List ℕ) → Type 0
  from-offsets-fact z vs bs t ms =
      Tabled (source offsets.now bytes.now nulls.now how.mapped) how.kind newviews.now newbytes.now table.now newnulls.now z
      vs.now bs.now t.now ms.now

  pub from-offsets-says : (z : Outcome) (vs bs : MutBor (List ℕ)) (t : MutBor (List Block)) (ms : MutBor (List ℕ))
      → (from_offsets.clauses 𝓛 mem run (κ0, (κ1, (κ2, (κ3, (κ4, (κ5, (κ6, tt)))))))
      (offsets, (bytes, (nulls, (how, (newviews, (newbytes, (table, (newnulls, tt))))))))).ensures tt z
      (offsets, (bytes, (nulls, (how, (vs, (bs, (t, (ms, tt))))))))
      ≡ fact 𝓤 (from-offsets-fact z vs bs t ms)
  from-offsets-says z vs bs t ms = refl

  pub from-offsets-one : (z z' : Outcome) (vs vs' bs bs' : MutBor (List ℕ)) (t t' : MutBor (List Block)) (ms ms' : MutBor (List ℕ))
      → from-offsets-fact z vs bs t ms → from-offsets-fact z' vs' bs' t' ms'
      → (z ≡ z') × (vs.now ≡ vs'.now) × (bs.now ≡ bs'.now) × (t.now ≡ t'.now) × (ms.now ≡ ms'.now)
  from-offsets-one z z' vs vs' bs bs' t t' ms ms' p q = (
    p.apart.answer ∙ sym q.apart.answer,
    p.apart.views ∙ sym q.apart.views,
    p.apart.bytes ∙ sym q.apart.bytes,
    p.table ∙ sym q.table,
    p.apart.nulls ∙ sym q.apart.nulls,
  )
