-- A table of records as two number slices: written through, it is as those are, and so is the whole call. Assumes nothing.
use Rattle.std.specs.Prelude.{◌≡◌, List, [], ◌∷◌, map, ℕ, zero, suc, length, set, get_or, Ok, Err}
use Rattle.std.proofs.Common.{refl, sym, ap, subst, ◌∙◌}
use Rattle.std.proofs.lemmas.List.{length-map}
use Rattle.views.specs.View.{block_of}
use Rattle.bounds.specs.Refusals.{if_accepted, Why}
use Rattle.column.specs.declared.Block.{Block}
use Rattle.column.specs.declared.Column.{Column}
use Rattle.column.specs.Lent.{Lent, block, buffers, lent, table_of}
use Rattle.column.specs.Spot.{Names}
use Rattle.laying.specs.Written.{front, starts_from}
use Rattle.laying.specs.WrittenLaws.{length-starts, table-front}
use Rattle.compaction.specs.declared.Outcome.{Outcome}
use Rattle.compaction.specs.Compact.{new_lens, why_compact, compacted, Wrote}
use Rattle.compaction_blocks.specs.Compacts.{Compacts}
use Rattle.compaction_blocks.specs.Records.{starts_in, lens_in}

pub table_is : (t : List Block) → table_of (starts_in t) (lens_in t) ≡ t
unfolding table_of
table_is [] = refl
table_is (b ∷ t) = ap (λ (u : List Block). b ∷ u) (table_is t)

-- the record of the block that a view names
pub named : (t : List Block) (k : ℕ) (v : List ℕ) (b : Block) → k ≡ block_of v → b ≡ get_or t k (block 0 0) → (blocks : ℕ)
    → Names (table_of (starts_in t) (lens_in t)) blocks v b
named t k v b e f blocks = λ long given. rw (table_is t, ← e) f

pub long_is : (t : List Block) → length t ≡ length (table_of (starts_in t) (lens_in t))
long_is t = ap length (sym (table_is t))

pub starts-long : (t : List Block) → length (starts_in t) ≡ length t
starts-long t = length-map t (λ b. b.start)

map-set : (f : Block → ℕ) (t : List Block) (k : ℕ) (b : Block) → map f (set t k b) ≡ set (map f t) k (f b)
map-set f [] k b = refl
map-set f (c ∷ t) zero b = refl
map-set f (c ∷ t) (suc k) b = ap (λ (l : List ℕ). f c ∷ l) (map-set f t k b)

-- a record written
pub starts-set : (t t' : List Block) (k : ℕ) (b : Block) (s n : ℕ) → t' ≡ set t k b → b ≡ block s n → starts_in t' ≡ set (starts_in t) k s
starts-set t t' k b s n e f = rw (e, f) (map-set (λ b. b.start) t k (block s n))

pub lens-set : (t t' : List Block) (k : ℕ) (b : Block) (s n : ℕ) → t' ≡ set t k b → b ≡ block s n → lens_in t' ≡ set (lens_in t) k n
lens-set t t' k b s n e f = rw (e, f) (map-set (λ b. b.len) t k (block s n))

-- the whole call, from what the laws of compaction say of it
module _ (most : ℕ) (views bytes nulls : List ℕ) (table : List Block) (c : Column) (vs bs ms : List ℕ) (t : List Block) (r : Outcome)
    (vs' bs' ms' : List ℕ) (t' : List Block) where
  abbrev from : Lent
  from = lent views bytes (starts_in table) (lens_in table) nulls

  abbrev to : Lent
  to = lent vs bs (starts_in t) (lens_in t) ms

  module _ (w : Wrote most from c vs bs (starts_in t) (lens_in t) ms r vs' bs' (starts_in t') (lens_in t') ms') where
    table-stands : t' ≡ if_accepted (why_compact most from c to) (compacted most from c to).table (table_of (starts_in t) (lens_in t))
    unfolding compacted
    table-stands = sym (table_is t') ∙ rw (w.starts, w.lens) (by (why_compact most from c to))
      where
        by : (y : Why) → table_of (if_accepted y (front (starts_in t) (starts_from 0 (new_lens most from c))) (starts_in t)) (if_accepted y (front (lens_in t)
            (new_lens most from c)) (lens_in t)) ≡ if_accepted y (front (table_of (starts_in t) (lens_in t)) (table_of (starts_from 0 (new_lens most from c))
            (new_lens most from c))) (table_of (starts_in t) (lens_in t))
        by (Ok _) = table-front (starts_in t) (lens_in t) (starts_from 0 (new_lens most from c)) (new_lens most from c) (length-starts 0 (new_lens most from c))
        by (Err e) = refl

    pub compacts : Compacts most (buffers views bytes table nulls) c (buffers vs bs t ms) r vs' bs' t' ms'
    compacts =
        subst (λ (u : List Block). Compacts most (buffers views bytes u nulls) c (buffers vs bs t ms) r vs' bs' t' ms') (table_is table)
        (subst (λ (u : List Block). Compacts most from c (buffers vs bs u ms) r vs' bs' t' ms') (table_is t)
        (record { answer = w.answer; views = w.views; bytes = w.bytes; table = table-stands; nulls = w.nulls }))
