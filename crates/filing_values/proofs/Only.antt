-- No second answer to the calls over records: what each promises is the fact that it looks like, by the clauses that the toolchain makes of the
-- source, and that fact has one answer, and one content at exit of each buffer that is lent to be written. Assumes nothing.
use seplogic.Ra.Ura.{Ura}
use base.Logic.{SProp}
use base.Fml.{Lft}
use prog.Memory.{Memory}
use prog.Routine.{Routine}
use types.Logic.{Logic}
use contract.Monad.{Fun, fact}
use denote.Bor.{Bor}
use denote.MutBor.{MutBor}
use Prim.Native.Nat.{ℕ}
use Rattle.builder.specs.Values.{put_values, why_values}
use Rattle.builder.specs.declared.Answer.{Answer}
use Rattle.builder.specs.declared.State.{State}
use Rattle.column.specs.declared.Block.{Block}
use Rattle.filing.specs.Files.{Files}
use mathlib.Core.List.{List}
use mathlib.Core.Path.{◌∙◌, ◌≡◌, refl, sym}
use Rattle.filing_values.specs.contracts.append_value as append_value
use Rattle.filing_values.specs.contracts.append_values as append_values

module _ {M : Type 1} {𝓤 : Ura M} (𝓛 : Logic 𝓤) (mem : Memory → SProp 𝓤) (run : Routine → Fun 𝓤) (κ0 κ1 κ2 κ3 κ4 κ5 : Lft)
    (s : State) (views : MutBor (List ℕ)) (bytes : MutBor (List ℕ)) (table : MutBor (List Block)) (nulls : MutBor (List ℕ)) (places : MutBor (List ℕ))
    (x : Bor (List ℕ)) where
  abbrev pub append-value-fact : Answer → MutBor (List ℕ) → MutBor (List ℕ) → MutBor (List Block) → MutBor (List ℕ) → MutBor (List ℕ) → Type 0
  append-value-fact z views' bytes' table' nulls' places' = Files (λ b. why_values 1 b x.now) (put_values 1 x.now) s views.now bytes.now
      table.now nulls.now places.now z views'.now bytes'.now table'.now nulls'.now places'.now

  pub append-value-says : (z : Answer) (views' : MutBor (List ℕ)) (bytes' : MutBor (List ℕ)) (table' : MutBor (List Block)) (nulls' : MutBor (List ℕ))
      (places' : MutBor (List ℕ)) → (append_value.clauses 𝓛 mem run (κ0, (κ1, (κ2, (κ3, (κ4, (κ5, tt))))))
      (s, (views, (bytes, (table, (nulls, (places, (x, tt)))))))).ensures tt z (s, (views', (bytes', (table', (nulls', (places', (x, tt)))))))
      ≡ fact 𝓤 (append-value-fact z views' bytes' table' nulls' places')
  append-value-says z views' bytes' table' nulls' places' = refl

  pub append-value-one : (z z' : Answer) (views' views'' : MutBor (List ℕ)) (bytes' bytes'' : MutBor (List ℕ)) (table' table'' : MutBor (List Block))
      (nulls' nulls'' : MutBor (List ℕ)) (places' places'' : MutBor (List ℕ)) → append-value-fact z views' bytes' table' nulls' places'
      → append-value-fact z' views'' bytes'' table'' nulls'' places'' → (z ≡ z') × (views'.now ≡ views''.now) × (bytes'.now ≡ bytes''.now)
      × (table'.now ≡ table''.now) × (nulls'.now ≡ nulls''.now) × (places'.now ≡ places''.now)
  append-value-one z z' views' views'' bytes' bytes'' table' table'' nulls' nulls'' places' places'' p q = (
    p.answers ∙ sym q.answers,
    p.views
        ∙ sym q.views,
    p.bytes ∙ sym q.bytes,
    p.table ∙ sym q.table,
    p.nulls ∙ sym q.nulls,
    p.places ∙ sym q.places,
  )

module _ {M : Type 1} {𝓤 : Ura M} (𝓛 : Logic 𝓤) (mem : Memory → SProp 𝓤) (run : Routine → Fun 𝓤) (κ0 κ1 κ2 κ3 κ4 κ5 : Lft)
    (s : State) (views : MutBor (List ℕ)) (bytes : MutBor (List ℕ)) (table : MutBor (List Block)) (nulls : MutBor (List ℕ)) (places : MutBor (List ℕ))
    (x : Bor (List ℕ)) (n : ℕ) where
  abbrev pub append-values-fact : Answer → MutBor (List ℕ) → MutBor (List ℕ) → MutBor (List Block) → MutBor (List ℕ) → MutBor (List ℕ) → Type 0
  append-values-fact z views' bytes' table' nulls' places' = Files (λ b. why_values n b x.now) (put_values n x.now) s views.now bytes.now
      table.now nulls.now places.now z views'.now bytes'.now table'.now nulls'.now places'.now

  pub append-values-says : (z : Answer) (views' : MutBor (List ℕ)) (bytes' : MutBor (List ℕ)) (table' : MutBor (List Block)) (nulls' : MutBor (List ℕ))
      (places' : MutBor (List ℕ)) → (append_values.clauses 𝓛 mem run (κ0, (κ1, (κ2, (κ3, (κ4, (κ5, tt))))))
      (s, (views, (bytes, (table, (nulls, (places, (x, (n, tt))))))))).ensures tt z
      (s, (views', (bytes', (table', (nulls', (places', (x, (n, tt)))))))) ≡ fact 𝓤 (append-values-fact z views' bytes' table' nulls' places')
  append-values-says z views' bytes' table' nulls' places' = refl

  pub append-values-one : (z z' : Answer) (views' views'' : MutBor (List ℕ)) (bytes' bytes'' : MutBor (List ℕ)) (table' table'' : MutBor (List Block))
      (nulls' nulls'' : MutBor (List ℕ)) (places' places'' : MutBor (List ℕ)) → append-values-fact z views' bytes' table' nulls' places'
      → append-values-fact z' views'' bytes'' table'' nulls'' places'' → (z ≡ z') × (views'.now ≡ views''.now) × (bytes'.now ≡ bytes''.now)
      × (table'.now ≡ table''.now) × (nulls'.now ≡ nulls''.now) × (places'.now ≡ places''.now)
  append-values-one z z' views' views'' bytes' bytes'' table' table'' nulls' nulls'' places' places'' p q = (
    p.answers ∙ sym q.answers,
    p.views
        ∙ sym q.views,
    p.bytes ∙ sym q.bytes,
    p.table ∙ sym q.table,
    p.nulls ∙ sym q.nulls,
    p.places ∙ sym q.places,
  )
