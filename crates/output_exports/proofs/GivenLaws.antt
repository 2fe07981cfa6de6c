-- An exported call's promise from the promise of the call that it makes. Assumes nothing.
use Rattle.std.specs.Prelude.{Ok, Err}
use mathlib.Core.Path.{◌≡◌, refl, ap, subst, ◌∙◌}
use mathlib.Core.List.{List}
use Prim.Native.Nat.{ℕ}
use Rattle.bounds.specs.Refusals.{why_number, if_accepted, accepted, Why}
use Rattle.column.specs.declared.Kind.{Kind}
use Rattle.column.specs.declared.Column.{Column}
use Rattle.column.specs.Lent.{Lent, lent}
use Rattle.compaction.specs.declared.Outcome as compaction
use Rattle.compaction.specs.Compact.{why_compact, compact_column, compact_of, Wrote}
use Rattle.offsets.specs.declared.Outcome as offsets
use Rattle.offsets.specs.Offsets.{Source, why_offsets, offset_column, no_column, offsets_of, Converted}
use Rattle.numbers.specs.declared.Told.{Told}
use Rattle.numbers.specs.Numbers.{column_numbers, why_told}
use Rattle.output_exports.specs.Given.{ExportsCompact, Converts}

-- a column that is answered only where the call is accepted
numbers-when : (w : Why) (c d : Column) (l : List ℕ) → if_accepted w (column_numbers (if_accepted w c d)) l ≡ if_accepted w (column_numbers c) l
numbers-when (Ok _) c d l = refl
numbers-when (Err r) c d l = refl

pub compacts : (most : ℕ) (l : Lent) (c d : Column) (vs bs ss ns ms cs : List ℕ) (o : compaction.Outcome) (r : Told) (vs' bs' ss' ns' ms' cs' : List ℕ)
    → d ≡ c → Wrote most l d vs bs ss ns ms o vs' bs' ss' ns' ms' → cs' ≡ if_accepted o.why (column_numbers o.column) cs → r ≡ why_told o.why
    → ExportsCompact most l c vs bs ss ns ms cs r vs' bs' ss' ns' ms' cs'
unfolding compact_of
compacts most l c d vs bs ss ns ms cs o r vs' bs' ss' ns' ms' cs' e w h t = go (subst (λ (x : Column). Wrote most l x vs bs ss ns ms o vs' bs' ss' ns' ms') e w)
  where
    go : Wrote most l c vs bs ss ns ms o vs' bs' ss' ns' ms' → ExportsCompact most l c vs bs ss ns ms cs r vs' bs' ss' ns' ms' cs'
    go p = record {
      answer = t ∙ ap (λ (x : compaction.Outcome). why_told x.why) p.answer;
      views = p.views;
      bytes = p.bytes;
      starts = p.starts;
      lens = p.lens;
      nulls = p.nulls;
      column = h ∙ ap (λ (x : compaction.Outcome). if_accepted x.why (column_numbers x.column) cs) p.answer
          ∙ numbers-when (why_compact most l c (lent vs bs ss ns ms)) (compact_column most l c) c cs;
    }

pub converts : (s : Source) (k k' : Kind) (vs bs ss ns ms cs : List ℕ) (o : offsets.Outcome) (r : ℕ) (vs' bs' ss' ns' ms' cs' : List ℕ)
    → k' ≡ k → Converted 4 s k' vs bs ss ns ms o vs' bs' ss' ns' ms' → cs' ≡ if_accepted o.why (column_numbers o.column) cs → r ≡ why_number o.why
    → Converts s k vs bs ss ns ms cs r vs' bs' ss' ns' ms' cs'
unfolding offsets_of
converts s k k' vs bs ss ns ms cs o r vs' bs' ss' ns' ms' cs' e w h t = go (subst (λ (x : Kind). Converted 4 s x vs bs ss ns ms o vs' bs' ss' ns' ms') e w)
  where
    go : Converted 4 s k vs bs ss ns ms o vs' bs' ss' ns' ms' → Converts s k vs bs ss ns ms cs r vs' bs' ss' ns' ms' cs'
    go p = record {
      answer = t ∙ ap (λ (x : offsets.Outcome). why_number x.why) p.answer;
      views = p.views;
      bytes = p.bytes;
      starts = p.starts;
      lens = p.lens;
      nulls = p.nulls;
      column = h ∙ ap (λ (x : offsets.Outcome). if_accepted x.why (column_numbers x.column) cs) p.answer
          ∙ numbers-when (why_offsets 4 s k (lent vs bs ss ns ms)) (offset_column 4 s k) (no_column 4 s k) cs;
    }
