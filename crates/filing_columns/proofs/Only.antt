-- No second answer to a column and to a view added over records: what each call promises is the fact that it looks like, by the clauses that the
-- toolchain makes of the source, and that fact has one answer, and one content at exit of each buffer that is lent to be written. Assumes nothing.
use seplogic.Ra.Ura.{Ura}
use base.Logic.{SProp}
use base.Fml.{Lft}
use prog.Memory.{Memory}
use prog.Routine.{Routine}
use types.Logic.{Logic}
use contract.Monad.{Fun, fact}
use denote.Bor.{Bor}
use denote.MutBor.{MutBor}
use Prim.Native.Nat.{ℕ}
use Rattle.builder.specs.Others.{put_column, put_view, why_column, why_view}
use Rattle.builder.specs.declared.Answer.{Answer}
use Rattle.builder.specs.declared.State.{State}
use Rattle.column.specs.Lent.{Lent, buffers}
use Rattle.column.specs.declared.Block.{Block}
use Rattle.column.specs.declared.Column.{Column}
use Rattle.filing.specs.Files.{Files}
use mathlib.Core.List.{List}
use mathlib.Core.Path.{◌∙◌, ◌≡◌, refl, sym}
use Rattle.filing_columns.specs.contracts.append_column as append_column
use Rattle.filing_columns.specs.contracts.append_view as append_view

module _ {M : Type 1} {𝓤 : Ura M} (𝓛 : Logic 𝓤) (mem : Memory → SProp 𝓤) (run : Routine → Fun 𝓤) (κ0 κ1 κ2 κ3 κ4 κ5 : Lft)
    (s : State) (views bytes : MutBor (List ℕ)) (table : MutBor (List Block)) (nulls : MutBor (List ℕ)) (places srcviews srcbytes : Bor (List ℕ)) (srctable : Bor (List Block))
    (srcnulls : Bor (List ℕ)) (c : Column) where
  abbrev source : Lent
  source = buffers srcviews.now srcbytes.now srctable.now srcnulls.now

  abbrev pub append-column-fact : Answer → MutBor (List ℕ) → MutBor (List ℕ) → MutBor (List Block) → MutBor (List ℕ) → Type 0
  append-column-fact z views' bytes' table' nulls' = Files (why_column source c) (put_column source c) s views.now bytes.now table.now nulls.now
      places.now z views'.now bytes'.now table'.now nulls'.now places.now

  pub append-column-says : (z : Answer) (views' : MutBor (List ℕ)) (bytes' : MutBor (List ℕ)) (table' : MutBor (List Block)) (nulls' : MutBor (List ℕ))
      → (append_column.clauses 𝓛 mem run (κ0, (κ1, (κ2, (κ3, (κ4, (κ5, tt))))))
      (s, (views, (bytes, (table, (nulls, (places, (srcviews, (srcbytes, (srctable, (srcnulls, (c, tt)))))))))))).ensures tt z
      (s, (views', (bytes', (table', (nulls', (places, (srcviews, (srcbytes, (srctable, (srcnulls, (c, tt)))))))))))
      ≡ fact 𝓤 (append-column-fact z views' bytes' table' nulls')
  append-column-says z views' bytes' table' nulls' = refl

  pub append-column-one : (z z' : Answer) (views' views'' : MutBor (List ℕ)) (bytes' bytes'' : MutBor (List ℕ)) (table' table'' : MutBor (List Block))
      (nulls' nulls'' : MutBor (List ℕ)) → append-column-fact z views' bytes' table' nulls' → append-column-fact z' views'' bytes'' table'' nulls'' → (z ≡ z')
      × (views'.now ≡ views''.now) × (bytes'.now ≡ bytes''.now) × (table'.now ≡ table''.now) × (nulls'.now ≡ nulls''.now)
  append-column-one z z' views' views'' bytes' bytes'' table' table'' nulls' nulls'' p q = (
    p.answers ∙ sym q.answers,
    p.views ∙ sym q.views,
    p.bytes ∙ sym q.bytes,
    p.table ∙ sym q.table,
    p.nulls ∙ sym q.nulls,
  )

module _ {M : Type 1} {𝓤 : Ura M} (𝓛 : Logic 𝓤) (mem : Memory → SProp 𝓤) (run : Routine → Fun 𝓤) (κ0 κ1 κ2 κ3 κ4 : Lft)
    (s : State) (views : MutBor (List ℕ)) (bytes : Bor (List ℕ)) (table : Bor (List Block)) (nulls : MutBor (List ℕ)) (places : Bor (List ℕ)) (k o n : ℕ) where
  abbrev pub append-view-fact : Answer → MutBor (List ℕ) → MutBor (List ℕ) → Type 0
  append-view-fact z views' nulls' = Files (λ b. why_view b k o n) (put_view k o n) s views.now bytes.now table.now nulls.now places.now z
      views'.now bytes.now table.now nulls'.now places.now

  pub append-view-says : (z : Answer) (views' : MutBor (List ℕ)) (nulls' : MutBor (List ℕ)) → (append_view.clauses 𝓛 mem run
      (κ0, (κ1, (κ2, (κ3, (κ4, tt))))) (s, (views, (bytes, (table, (nulls, (places, (k, (o, (n, tt)))))))))).ensures tt z
      (s, (views', (bytes, (table, (nulls', (places, (k, (o, (n, tt))))))))) ≡ fact 𝓤 (append-view-fact z views' nulls')
  append-view-says z views' nulls' = refl

  pub append-view-one : (z z' : Answer) (views' views'' : MutBor (List ℕ)) (nulls' nulls'' : MutBor (List ℕ)) → append-view-fact z views' nulls'
      → append-view-fact z' views'' nulls'' → (z ≡ z') × (views'.now ≡ views''.now) × (nulls'.now ≡ nulls''.now)
  append-view-one z z' views' views'' nulls' nulls'' p q = (p.answers ∙ sym q.answers, p.views ∙ sym q.views, p.nulls ∙ sym q.nulls)
