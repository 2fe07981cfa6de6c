-- The two number slices of a table; a call that is refused, and one that is accepted. Assumes nothing.
use Rattle.std.specs.Prelude.{◌≡◌, refl, Bool, true, false, List, [], ◌∷◌, ℕ, zero, suc, ◌<◌, length, set, Ok, Err}
use Rattle.std.proofs.Common.{sym, ap, subst, ◌∙◌, arith}
use Rattle.basis.specs.Pick.{pick}
use Rattle.bounds.specs.Refusals.{is_accepted, accepted, Why}
use Rattle.column.specs.declared.Block.{Block}
use Rattle.column.specs.declared.Kind.{Kind}
use Rattle.growth.specs.declared.Growth.{Growth}
use Rattle.builder.specs.declared.Merging.{Merging}
use Rattle.column.specs.Lent.{buffers, block, table_of, lent}
use Rattle.builder.specs.declared.State.{State}
use Rattle.builder.specs.declared.Answer.{Answer}
use Rattle.builder.specs.State.{Builder, held, is_open, recorded}
use Rattle.builder.specs.Rooms.{open_starts, open_lens}
use Rattle.builder.specs.Does.{starts_of, lens_of, answer, left, Does}

-- a record written in a table of two number slices
pub table-set : (ss ns : List ℕ) (k s n : ℕ) → table_of (set ss k s) (set ns k n) ≡ set (table_of ss ns) k (block s n)
unfolding table_of
table-set [] ns k s n = refl
table-set (a ∷ ss) [] zero s n = refl
table-set (a ∷ ss) [] (suc k) s n = refl
table-set (a ∷ ss) (b ∷ ns) zero s n = refl
table-set (a ∷ ss) (b ∷ ns) (suc k) s n = ap (λ (t : List Block). block a b ∷ t) (table-set ss ns k s n)

pub starts-same : (ss ns : List ℕ) → starts_of (table_of ss ns) ss ≡ ss
unfolding table_of starts_of
starts-same [] ns = refl
starts-same (a ∷ ss) [] = refl
starts-same (a ∷ ss) (b ∷ ns) = ap (λ (t : List ℕ). a ∷ t) (starts-same ss ns)

pub lens_same : (ss ns : List ℕ) → lens_of (table_of ss ns) ns ≡ ns
unfolding table_of lens_of
lens_same [] ns = refl
lens_same (a ∷ ss) [] = refl
lens_same (a ∷ ss) (b ∷ ns) = ap (λ (t : List ℕ). b ∷ t) (lens_same ss ns)

pub starts-set : (ss ns : List ℕ) (k s n : ℕ) → k < length ss → k < length ns → starts_of (set (table_of ss ns) k (block s n)) ss ≡ set ss k s
unfolding table_of starts_of
starts-set [] ns k s n h g = absurd (omega arith)
starts-set (a ∷ ss) [] k s n h g = absurd (omega arith)
starts-set (a ∷ ss) (b ∷ ns) zero s n h g = ap (λ (t : List ℕ). s ∷ t) (starts-same ss ns)
starts-set (a ∷ ss) (b ∷ ns) (suc k) s n h g = ap (λ (t : List ℕ). a ∷ t) (starts-set ss ns k s n (omega arith) (omega arith))

pub lens-set : (ss ns : List ℕ) (k s n : ℕ) → k < length ss → k < length ns → lens_of (set (table_of ss ns) k (block s n)) ns ≡ set ns k n
unfolding table_of lens_of
lens-set [] ns k s n h g = absurd (omega arith)
lens-set (a ∷ ss) [] k s n h g = absurd (omega arith)
lens-set (a ∷ ss) (b ∷ ns) zero s n h g = ap (λ (t : List ℕ). n ∷ t) (lens_same ss ns)
lens-set (a ∷ ss) (b ∷ ns) (suc k) s n h g = ap (λ (t : List ℕ). b ∷ t) (lens-set ss ns k s n (omega arith) (omega arith))

-- the open block's record written in both
pub recorded-is : (s : State) (vs bs ss ns ms : List ℕ) → recorded s (lent vs bs ss ns ms) ≡ lent vs bs (open_starts s ss) (open_lens s ns) ms
unfolding recorded open_starts open_lens
recorded-is s vs bs ss ns ms = by (is_open s)
  where
    by : (t : Bool) → buffers vs bs (pick t (set (table_of ss ns) s.blocks (block s.base s.fill)) (table_of ss ns)) ms
        ≡ lent vs bs (pick t (set ss s.blocks s.base) ss) (pick t (set ns s.blocks s.fill) ns) ms
    by true = ap (λ (t : List Block). buffers vs bs t ms) (sym (table-set ss ns s.blocks s.base s.fill))
    by false = refl

-- refused: everything as it came
module _ (why : Builder → Why) (put : Builder → Builder) (s : State) (vs bs ss ns ms ps : List ℕ) where
  pub does-no : (w : Why) → w ≡ why (held s vs bs ss ns ms ps) → is_accepted w ≡ false → Does why put s vs bs ss ns ms ps (answer w s) vs bs ss ns ms ps
  does-no w e h = go w h e
    where
      go : (w : Why) → is_accepted w ≡ false → w ≡ why (held s vs bs ss ns ms ps) → Does why put s vs bs ss ns ms ps (answer w s) vs bs ss ns ms ps
      go (Ok _) k d = absurd (let z : ◌≡◌ {A = ℕ} 0 1 = cc in omega arith)
      go (Err z) k d =
          record {
            answers = rw (← d);
            views = rw (← d);
            bytes = rw (← d);
            starts = rw (← d) (sym (starts-same ss ns));
            lens = rw (← d) (sym (lens_same ss ns));
            nulls = rw (← d);
            places = rw (← d);
          }

  -- accepted: what it puts, field by field
  pub does-put : (e : Builder) {s' : State} {vs' bs' ss' ns' ms' ps' : List ℕ} → why (held s vs bs ss ns ms ps) ≡ accepted → e ≡ put (held s vs bs ss ns ms ps)
      → s' ≡ e.state → vs' ≡ e.lent.views → bs' ≡ e.lent.bytes → ss' ≡ starts_of e.lent.table ss → ns' ≡ lens_of e.lent.table ns
      → ms' ≡ e.lent.nulls → ps' ≡ e.places
      → Does why put s vs bs ss ns ms ps (answer accepted s') vs' bs' ss' ns' ms' ps'
  does-put e d p st v by sta le nu pl =
      record {
        answers = rw (d, ← p) (ap (answer accepted) st);
        views = rw (d, ← p) v;
        bytes = rw (d, ← p) by;
        starts = rw (d, ← p) sta;
        lens = rw (d, ← p) le;
        nulls = rw (d, ← p) nu;
        places = rw (d, ← p) pl;
      }

  pub does-yes : {s' : State} {vs' bs' ss' ns' ms' ps' : List ℕ} → why (held s vs bs ss ns ms ps) ≡ accepted
      → s' ≡ (put (held s vs bs ss ns ms ps)).state
      → vs' ≡ (put (held s vs bs ss ns ms ps)).lent.views
      → bs' ≡ (put (held s vs bs ss ns ms ps)).lent.bytes
      → ss' ≡ starts_of (put (held s vs bs ss ns ms ps)).lent.table ss
      → ns' ≡ lens_of (put (held s vs bs ss ns ms ps)).lent.table ns
      → ms' ≡ (put (held s vs bs ss ns ms ps)).lent.nulls
      → ps' ≡ (put (held s vs bs ss ns ms ps)).places
      → Does why put s vs bs ss ns ms ps (answer accepted s') vs' bs' ss' ns' ms' ps'
  does-yes d st v by sta le nu pl =
      record { answers = rw d (ap (answer accepted) st); views = rw d v; bytes = rw d by; starts = rw d sta; lens = rw d le; nulls = rw d nu; places = rw d pl }

-- a call that on these buffers leaves what another leaves
pub does-left : (why why' : Builder → Why) (put put' : Builder → Builder) (s : State) (vs bs ss ns ms ps : List ℕ) {r : Answer}
    {vs' bs' ss' ns' ms' ps' : List ℕ}
    → why (held s vs bs ss ns ms ps) ≡ why' (held s vs bs ss ns ms ps) → left why put (held s vs bs ss ns ms ps) ≡ left why' put' (held s vs bs ss ns ms ps)
    → Does why put s vs bs ss ns ms ps r vs' bs' ss' ns' ms' ps' → Does why' put' s vs bs ss ns ms ps r vs' bs' ss' ns' ms' ps'
does-left why why' put put' s vs bs ss ns ms ps p e d =
    record {
      answers = d.answers ∙ λ i. answer (p i) (e i).state;
      views = d.views ∙ ap (λ (z : Builder). z.lent.views) e;
      bytes = d.bytes ∙ ap (λ (z : Builder). z.lent.bytes) e;
      starts = d.starts ∙ ap (λ (z : Builder). starts_of z.lent.table ss) e;
      lens = d.lens ∙ ap (λ (z : Builder). lens_of z.lent.table ns) e;
      nulls = d.nulls ∙ ap (λ (z : Builder). z.lent.nulls) e;
      places = d.places ∙ ap (λ (z : Builder). z.places) e;
    }

-- the same state by another name
pub does-same : (why : Builder → Why) (put : Builder → Builder) (t s : State) (vs bs ss ns ms ps : List ℕ) {r : Answer}
    {vs' bs' ss' ns' ms' ps' : List ℕ} → t ≡ s
    → Does why put t vs bs ss ns ms ps r vs' bs' ss' ns' ms' ps' → Does why put s vs bs ss ns ms ps r vs' bs' ss' ns' ms' ps'
does-same why put t s vs bs ss ns ms ps {r} {vs'} {bs'} {ss'} {ns'} {ms'} {ps'} e d = subst (λ (z : State). Does why put z vs bs ss ns ms ps r vs' bs'
    ss' ns' ms' ps') e d

-- a state made of another's fields
pub fields-same : (s : State) (k : Kind) (g : Growth) (m : Merging) → k ≡ s.kind → g ≡ s.growth → m ≡ s.merging
    → record { kind = k; growth = g; merging = m; rows = s.rows; blocks = s.blocks; base = s.base; fill = s.fill; cap = s.cap; nulled = s.nulled } ≡ s
fields-same s k g m ek eg em =
    λ i. record {
      kind = ek i;
      growth = eg i;
      merging = em i;
      rows = s.rows;
      blocks = s.blocks;
      base = s.base;
      fill = s.fill;
      cap = s.cap;
      nulled = s.nulled;
    }
