-- No second answer to the calls over records: what each promises is the fact that it looks like, by the clauses that the toolchain makes of the
-- source, and that fact has one answer, and one content at exit of each buffer that is lent to be written. Assumes nothing.
use seplogic.Ra.Ura.{Ura}
use base.Logic.{SProp}
use base.Fml.{Lft}
use prog.Memory.{Memory}
use prog.Routine.{Routine}
use types.Logic.{Logic}
use contract.Monad.{Fun, fact}
use denote.Bor.{Bor}
use denote.MutBor.{MutBor}
use Prim.Native.Nat.{ℕ}
use Rattle.appending.specs.declared.Placed.{Placed}
use Rattle.bounds.specs.Refusals.{Why}
use Rattle.builder.specs.Finish.{copied, finish_column, finished, why_finish}
use Rattle.builder.specs.Get.{get_value, why_get}
use Rattle.builder.specs.Others.{block_number, put_block, why_block}
use Rattle.builder.specs.Values.{put_null, why_null}
use Rattle.builder.specs.declared.Answer.{Answer}
use Rattle.builder.specs.declared.State.{State}
use Rattle.column.specs.declared.Block.{Block}
use Rattle.filing.specs.Files.{Files, filed}
use Rattle.finishing.specs.declared.Finished.{Finished}
use Rattle.finishing.specs.Places.{get_points}
use mathlib.Core.List.{List}
use mathlib.Core.Path.{◌∙◌, ◌≡◌, refl, sym}
use Rattle.filing.specs.contracts.append_null as append_null
use Rattle.filing.specs.contracts.finish as finish
use Rattle.filing.specs.contracts.finish_copy as finish_copy
use Rattle.filing.specs.contracts.why_get as why_get
use Rattle.filing.specs.contracts.get_value as getting
use Rattle.filing.specs.contracts.append_block as append_block

module _ {M : Type 1} {𝓤 : Ura M} (𝓛 : Logic 𝓤) (mem : Memory → SProp 𝓤) (run : Routine → Fun 𝓤) (κ0 κ1 κ2 κ3 κ4 : Lft)
    (s : State) (views : MutBor (List ℕ)) (bytes : Bor (List ℕ)) (table : Bor (List Block)) (nulls : MutBor (List ℕ)) (places : Bor (List ℕ)) where
  abbrev pub append-null-fact : Answer → MutBor (List ℕ) → MutBor (List ℕ) → Type 0
  append-null-fact z views' nulls' = Files why_null put_null s views.now bytes.now table.now nulls.now places.now z views'.now bytes.now
      table.now nulls'.now places.now

  pub append-null-says : (z : Answer) (views' : MutBor (List ℕ)) (nulls' : MutBor (List ℕ)) → (append_null.clauses 𝓛 mem run
      (κ0, (κ1, (κ2, (κ3, (κ4, tt))))) (s, (views, (bytes, (table, (nulls, (places, tt))))))).ensures tt z
      (s, (views', (bytes, (table, (nulls', (places, tt)))))) ≡ fact 𝓤 (append-null-fact z views' nulls')
  append-null-says z views' nulls' = refl

  pub append-null-one : (z z' : Answer) (views' views'' : MutBor (List ℕ)) (nulls' nulls'' : MutBor (List ℕ)) → append-null-fact z views' nulls'
      → append-null-fact z' views'' nulls'' → (z ≡ z') × (views'.now ≡ views''.now) × (nulls'.now ≡ nulls''.now)
  append-null-one z z' views' views'' nulls' nulls'' p q = (p.answers ∙ sym q.answers, p.views ∙ sym q.views, p.nulls ∙ sym q.nulls)

module _ {M : Type 1} {𝓤 : Ura M} (𝓛 : Logic 𝓤) (mem : Memory → SProp 𝓤) (run : Routine → Fun 𝓤) (κ0 κ1 κ2 κ3 κ4 : Lft)
    (s : State) (views : Bor (List ℕ)) (bytes : Bor (List ℕ)) (table : MutBor (List Block)) (nulls : Bor (List ℕ)) (places : MutBor (List ℕ)) where
  abbrev pub finish-fact : Finished → MutBor (List Block) → MutBor (List ℕ) → Type 0
  finish-fact z table' places' = Files why_finish finished s views.now bytes.now table.now nulls.now places.now z.answer views.now
      bytes.now table'.now nulls.now places'.now × (z.column ≡ finish_column (filed s views.now bytes.now table.now nulls.now places.now))

  pub finish-says : (z : Finished) (table' : MutBor (List Block)) (places' : MutBor (List ℕ)) → (finish.clauses 𝓛 mem run
      (κ0, (κ1, (κ2, (κ3, (κ4, tt))))) (s, (views, (bytes, (table, (nulls, (places, tt))))))).ensures tt z
      (s, (views, (bytes, (table', (nulls, (places', tt)))))) ≡ fact 𝓤 (finish-fact z table' places')
  finish-says z table' places' = refl

  pub finish-one : (z z' : Finished) (table' table'' : MutBor (List Block)) (places' places'' : MutBor (List ℕ)) → finish-fact z table' places'
      → finish-fact z' table'' places'' → (z ≡ z') × (table'.now ≡ table''.now) × (places'.now ≡ places''.now)
  finish-one z z' table' table'' places' places'' p q = (
    λ i. record {
      answer = (p.0.answers ∙ sym q.0.answers) i;
      column = (p.1 ∙ sym q.1) i;
    },
    p.0.table ∙ sym q.0.table,
    p.0.places ∙ sym q.0.places,
  )

module _ {M : Type 1} {𝓤 : Ura M} (𝓛 : Logic 𝓤) (mem : Memory → SProp 𝓤) (run : Routine → Fun 𝓤) (κ0 κ1 κ2 κ3 κ4 : Lft)
    (s : State) (views : Bor (List ℕ)) (bytes : Bor (List ℕ)) (table : MutBor (List Block)) (nulls : Bor (List ℕ)) (places : Bor (List ℕ)) where
  abbrev pub finish-copy-fact : Finished → MutBor (List Block) → Type 0
  finish-copy-fact z table' = Files why_finish copied s views.now bytes.now table.now nulls.now places.now z.answer views.now
      bytes.now table'.now nulls.now places.now × (z.column ≡ finish_column (filed s views.now bytes.now table.now nulls.now places.now))

  pub finish-copy-says : (z : Finished) (table' : MutBor (List Block)) → (finish_copy.clauses 𝓛 mem run (κ0, (κ1, (κ2, (κ3, (κ4, tt)))))
      (s, (views, (bytes, (table, (nulls, (places, tt))))))).ensures tt z (s, (views, (bytes, (table', (nulls, (places, tt))))))
      ≡ fact 𝓤 (finish-copy-fact z table')
  finish-copy-says z table' = refl

  pub finish-copy-one : (z z' : Finished) (table' table'' : MutBor (List Block)) → finish-copy-fact z table' → finish-copy-fact z' table'' → (z ≡ z')
      × (table'.now ≡ table''.now)
  finish-copy-one z z' table' table'' p q = (
    λ i. record { answer = (p.0.answers ∙ sym q.0.answers) i; column = (p.1 ∙ sym q.1) i },
    p.0.table ∙ sym q.0.table,
  )

module _ {M : Type 1} {𝓤 : Ura M} (𝓛 : Logic 𝓤) (mem : Memory → SProp 𝓤) (run : Routine → Fun 𝓤) (κ0 κ1 κ2 κ3 : Lft)
    (s : State) (views : Bor (List ℕ)) (bytes : Bor (List ℕ)) (table : Bor (List Block)) (nulls : Bor (List ℕ)) (places : Bor (List ℕ)) (r : ℕ) where
  abbrev pub why-get-fact : Why → Type 0
  why-get-fact z = z ≡ why_get (filed s views.now bytes.now table.now nulls.now places.now) r

  pub why-get-says : (z : Why) → (why_get.clauses 𝓛 mem run (κ0, (κ1, (κ2, (κ3, tt))))
      (s, (views, (bytes, (table, (nulls, (places, (r, tt)))))))).ensures tt z (s, (views, (bytes, (table, (nulls, (places, (r, tt)))))))
      ≡ fact 𝓤 (why-get-fact z)
  why-get-says z = refl

  pub why-get-one : (z z' : Why) → why-get-fact z → why-get-fact z' → z ≡ z'
  why-get-one z z' p q = p ∙ sym q

module _ {M : Type 1} {𝓤 : Ura M} (𝓛 : Logic 𝓤) (mem : Memory → SProp 𝓤) (run : Routine → Fun 𝓤) (κ0 κ1 κ2 κ3 : Lft)
    (s : State) (views : Bor (List ℕ)) (bytes : Bor (List ℕ)) (table : Bor (List Block)) (nulls : Bor (List ℕ)) (places : Bor (List ℕ)) (r : ℕ) where
  abbrev pub get-value-fact : Bor (List ℕ) → Type 0
  get-value-fact z = (z.now ≡ get_value (filed s views.now bytes.now table.now nulls.now places.now) r)
      × (z.ref_ptr ≡ get_points (filed s views.now bytes.now table.now nulls.now places.now) r views.ref_ptr bytes.ref_ptr)

  pub get-value-says : (z : Bor (List ℕ)) → (getting.clauses 𝓛 mem run (κ0, (κ1, (κ2, (κ3, tt))))
      (s, (views, (bytes, (table, (nulls, (places, (r, tt)))))))).ensures tt z (s, (views, (bytes, (table, (nulls, (places, (r, tt)))))))
      ≡ fact 𝓤 (get-value-fact z)
  get-value-says z = refl

  pub get-value-one : (z z' : Bor (List ℕ)) → get-value-fact z → get-value-fact z' → (z.ref_ptr ≡ z'.ref_ptr) × (z.now ≡ z'.now)
  get-value-one z z' p q = (p.1 ∙ sym q.1, p.0 ∙ sym q.0)

module _ {M : Type 1} {𝓤 : Ura M} (𝓛 : Logic 𝓤) (mem : Memory → SProp 𝓤) (run : Routine → Fun 𝓤) (κ0 κ1 κ2 κ3 κ4 κ5 : Lft)
    (s : State) (views : Bor (List ℕ)) (bytes : MutBor (List ℕ)) (table : MutBor (List Block)) (nulls : Bor (List ℕ)) (places : Bor (List ℕ))
    (x : Bor (List ℕ)) where
  abbrev pub append-block-fact : Placed → MutBor (List ℕ) → MutBor (List Block) → Type 0
  append-block-fact z bytes' table' = Files (λ b. why_block b x.now) (put_block x.now) s views.now bytes.now table.now nulls.now
      places.now z.answer views.now bytes'.now table'.now nulls.now places.now
      × (z.block ≡ block_number (filed s views.now bytes.now table.now nulls.now places.now) x.now)

  pub append-block-says : (z : Placed) (bytes' : MutBor (List ℕ)) (table' : MutBor (List Block)) → (append_block.clauses 𝓛 mem run
      (κ0, (κ1, (κ2, (κ3, (κ4, (κ5, tt)))))) (s, (views, (bytes, (table, (nulls, (places, (x, tt)))))))).ensures tt z
      (s, (views, (bytes', (table', (nulls, (places, (x, tt))))))) ≡ fact 𝓤 (append-block-fact z bytes' table')
  append-block-says z bytes' table' = refl

  pub append-block-one : (z z' : Placed) (bytes' bytes'' : MutBor (List ℕ)) (table' table'' : MutBor (List Block)) → append-block-fact z bytes' table'
      → append-block-fact z' bytes'' table'' → (z ≡ z') × (bytes'.now ≡ bytes''.now) × (table'.now ≡ table''.now)
  append-block-one z z' bytes' bytes'' table' table'' p q = (
    λ i. record {
      answer = (p.0.answers ∙ sym q.0.answers) i;
      block = (p.1 ∙ sym q.1)
          i;
    },
    p.0.bytes ∙ sym q.0.bytes,
    p.0.table ∙ sym q.0.table,
  )
