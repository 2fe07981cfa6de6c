-- Functions that meet their contracts answer columns that are made and filed, so the third promise holds of what they answer. Assumes nothing.
use mathlib.Core.Path.{◌≡◌, refl, sym, ap, ◌∙◌, subst}
use mathlib.Core.List.{List, map}
use Prim.Native.Nat.{ℕ}
use Rattle.bounds.specs.Refusals.{is_accepted, if_accepted, accepted, Why}
use Rattle.column.specs.declared.Kind.{Kind}
use Rattle.column.specs.declared.Column.{Column}
use Rattle.column.specs.Lent.{Lent, lent}
use Rattle.builder.specs.declared.Settings.{Settings}
use Rattle.builder.specs.declared.Answer.{Answer}
use Rattle.finishing.specs.declared.Finished.{Finished}
use Rattle.builder.specs.State.{Builder, builder}
use Rattle.builder.specs.Start.{why_start, started, unstarted, start_state, cleared, start_places, start}
use Rattle.builder.specs.Get.{column_of}
use Rattle.builder.specs.Finish.{why_finish, no_column, finished, finish_column}
use Rattle.compaction.specs.declared.Outcome as compaction
use Rattle.compaction.specs.Compact.{why_compact, compacted, compact_column, compact_of}
use Rattle.compaction.proofs.Exit.{wrote-lent}
use Rattle.compaction.proofs.Bound.{compacted-bounded}
use Rattle.offsets.specs.declared.Outcome as offsets
use Rattle.offsets.specs.Offsets.{Source, why_offsets, from_offsets, offset_column, no_column as noOffsets, offsets_of}
use Rattle.offsets.proofs.Exit.{converted-lent}
use Rattle.compaction.specs.Bounded.{Bounded}
use Rattle.promise.specs.Calls.{Ran, finish, Item, call}
use Rattle.promise.specs.Coded.{Slices, held_in}
use Rattle.promise.specs.Made.{Made, built, again}
use Rattle.promise.specs.Kept.{Filed}
use Rattle.promise.specs.Kept as files
use Rattle.promise.specs.Answered.{Buffers, lent_as, column_in, StartMet, FinishMet, CompactMet, ConvertMet, Answered, finished_by, compacted_by, cells_of, KeptByContracts, Continued}
use Rattle.promise.proofs.Coded.{coded, met-why, met-put}
use Rattle.promise.proofs.Kept.{kept}
use Rattle.promise.proofs.Promised.{promised, filed}

-- ---- start and finish

module _ (t : Settings) (ps : List ℕ) (r : Answer) (ps' : List ℕ) (h : Slices) (m : StartMet t ps r ps' h) where
  start-why : why_start t ≡ accepted
  start-why = sym (ap (λ (a : Answer). a.why) m.answers) ∙ m.accepted

  pub start-held : held_in h ≡ start t (lent_as (column_in h)) ps
  unfolding start start_state start_places
  start-held =
      let state : h.state ≡ started t = m.state ∙ ap (λ (a : Answer). a.state) m.answers
      ∙ ap (λ (y : Why). if_accepted y (started t) (unstarted t)) start-why in
      let places : h.places ≡ cleared t.merging ps = m.places ∙ m.cleared ∙ ap (λ (y : Why). if_accepted y (cleared t.merging ps) ps) start-why in
      λ i. builder (state i) (lent_as (column_in h)) (places i)

module _ (h : Slices) (r : Finished) (h' : Slices) (m : FinishMet h r h') where
  finish-why : why_finish (held_in h) ≡ accepted
  finish-why = met-why finish h r.answer h' m.met

  finish-lent : (finished (held_in h)).lent ≡ lent_as (column_in h')
  finish-lent = sym (ap (λ (b : Builder). b.lent) (met-put finish h r.answer h' m.met))

  finish-column : column_of (held_in h) ≡ r.column
  unfolding finish_column
  finish-column = sym (m.column ∙ ap (λ (y : Why). if_accepted y (column_of (held_in h)) (no_column (held_in h).state)) finish-why)

-- ---- compaction and the offset column

module _ (most : ℕ) (b : Buffers) (c : Column) (o : Buffers) (r : compaction.Outcome) (o' : Buffers) (m : CompactMet most b c o r o') where
  pub compact-why : why_compact most (lent_as b) c (lent_as o) ≡ accepted
  unfolding compact_of
  compact-why = sym (ap (λ (a : compaction.Outcome). a.why) m.wrote.answer) ∙ m.accepted

  pub compact-lent : compacted most (lent_as b) c (lent_as o) ≡ lent_as o'
  compact-lent =
      sym (wrote-lent most (lent_as b) c o.views o.bytes o.starts o.lens o.nulls r o'.views o'.bytes o'.starts o'.lens
      o'.nulls m.wrote (ap is_accepted compact-why))

  pub compact-column : compact_column most (lent_as b) c ≡ r.column
  unfolding compact_of
  compact-column = sym (ap (λ (a : compaction.Outcome). a.column) m.wrote.answer
      ∙ ap (λ (y : Why). if_accepted y (compact_column most (lent_as b) c) c) compact-why)

module _ (s : Source) (k : Kind) (o : Buffers) (r : offsets.Outcome) (o' : Buffers) (m : ConvertMet s k o r o') where
  convert-why : why_offsets 4 s k (lent_as o) ≡ accepted
  unfolding offsets_of
  convert-why = sym (ap (λ (a : offsets.Outcome). a.why) m.converted.answer) ∙ m.accepted

  convert-lent : from_offsets 4 s (lent_as o) ≡ lent_as o'
  convert-lent =
      sym (converted-lent 4 s k o.views o.bytes o.starts o.lens o.nulls r o'.views o'.bytes o'.starts o'.lens o'.nulls
      m.converted (ap is_accepted convert-why))

  convert-column : offset_column 4 s k ≡ r.column
  unfolding offsets_of
  convert-column = sym (ap (λ (a : offsets.Outcome). a.column) m.converted.answer
      ∙ ap (λ (y : Why). if_accepted y (offset_column 4 s k) (noOffsets 4 s k)) convert-why)

-- a family over buffers and a column, along two equations
pub carried : (P : Lent → Column → Type 0) {l m : Lent} {c d : Column} → l ≡ m → c ≡ d → P l c → P m d
carried P {l} {m} {c} {d} e f p = subst (λ (x : Lent). P x d) e (subst (λ (x : Column). P l x) f p)

pub continued : Continued
continued =
    record {
      made = λ xs most b c o r o' d m.
          carried (Made xs) (compact-lent most b c o r o' m) (compact-column most b c o r o' m) (again most (lent_as o) d (compact-why most b c o r o' m));
      filed = λ xs most b c o r o' d m.
          carried (Filed xs) (compact-lent most b c o r o' m) (compact-column most b c o r o' m) (files.again most (lent_as o) d
          (compact-why most b c o r o' m));
      offsets = λ s k o r o' m.
          carried (Filed (cells_of s)) (convert-lent s k o r o' m) (convert-column s k o r o' m) (files.converted s k (lent_as o)
          (convert-why s k o r o' m) refl);
    }

made : (xs : List Item) {b : Buffers} {c : Column} → Answered xs b c → Made xs (lent_as b) c
made xs (finished_by t ps r ps' h m cs e e₁ d f e₂ n) =
    let run : Ran (map call cs) (start t (lent_as (column_in h)) ps) (held_in e₁) =
    subst (λ (b : Builder). Ran (map call cs) b (held_in e₁)) (start-held t ps r ps' h m) (coded.runs (map call cs) h e₁ d) in
    carried (Made xs) (finish-lent e₁ f e₂ n) (finish-column e₁ f e₂ n)
    (built t (lent_as (column_in h)) ps cs (held_in e₁) (start-why t ps r ps' h m) e run (finish-why e₁ f e₂ n))
made xs (compacted_by most o r o' {b} {c} d m) = continued.made xs most b c o r o' (made xs d) m

-- any list of values and nulls
pub kept-by-contracts : (xs : List Item) → KeptByContracts xs
kept-by-contracts xs =
    record {
      shows = λ d. (promised xs).shows (made xs d);
      compares = λ d e. (promised xs).compares (made xs d) (made xs e);
      bounds = λ most o r o' {b} {c} d m.
          carried (λ (l : Lent). λ (e : Column). Bounded most l e) (compact-lent most b c o r o' m) (compact-column most b c o r o' m)
          (compacted-bounded most (lent_as b) c (lent_as o) (compact-why most b c o r o' m));
      checks = λ d. (kept.shows _ (filed xs (made xs d))).checks;
    }
