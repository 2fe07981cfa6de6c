-- The second pass over a column whose rows are true: each row has its room, and the last block makes it whole. Assumes nothing.
use Rattle.std.specs.Prelude.{◌≡◌, true, ℕ, ◌+◌, ◌≤◌, ◌<◌, set}
use Rattle.std.proofs.Math.Path.{refl, sym, ap}
use Rattle.std.proofs.Common.{◌∙◌, arith, eq-eqb}
use mathlib.Core.List.{List, [], ◌∷◌}
use Rattle.std.proofs.Math.ListN.{length}
use Rattle.views.specs.View.{short_most, length_of}
use Rattle.views.specs.ViewLaws.{length-view}
use Rattle.column.specs.declared.Column.{Column}
use Rattle.column.specs.Lent.{Lent}
use Rattle.column.specs.Room.{bare, InRoom}
use Rattle.column.specs.Meaning.{row_view}
use Rattle.column.specs.Truth.{reachable}
use Rattle.column.proofs.TruthLaws.{true-reach}
use Rattle.column.proofs.ReachLaws.{length-shown}
use Rattle.compaction.specs.declared.Stand.{Stand}
use Rattle.compaction.specs.Cut.{Cut, shut, cut_all, cut_lens}
use Rattle.compaction.specs.Compact.{len_at, row_shown, long_of}
use Rattle.compaction.specs.Steps.{stand_of, stand_at, SourceFits, RowIn, Few, WriteIn, TableIn, CutCounted, Laid, CutTabled, Filled, CutListed}
use Rattle.compaction.proofs.LaidLaws.{stand-below, long-below, lens_none, lens-some, shut-starts, shut-lens, count-blocks, lens-total}
use Rattle.std.proofs.Math.Logic.{by_cases}
use Rattle.std.proofs.Math.Decide.{ℕ_discrete}
use Rattle.laying.specs.Written.{starts_from, total}
use Rattle.laying.specs.WrittenLaws.{front-one, total-one}

module _ (most : ℕ) (views bytes starts lens : List ℕ) (c : Column) (vs₀ bs₀ : List ℕ) (g : SourceFits views starts lens c)
    (w : WriteIn most (bare views bytes starts lens) c vs₀ bs₀) where
  abbrev src : Lent
  src = bare views bytes starts lens

  pub row-there : (k : ℕ) → k < c.rows → InRoom views starts lens c.blocks (c.first + k)
  row-there k h = record { row = omega arith; starts = g.starts; lens = g.lens }

  pub row-reach : (k : ℕ) → k < c.rows → reachable src c.blocks (row_view src c k) ≡ true
  row-reach k h = true-reach src c.kind c.blocks (row_view src c k) (w.truth k h)

  pub row_sized : (k : ℕ) → k < c.rows → length (row_shown src c k) ≡ len_at src c k
  row_sized k h = length-shown views bytes starts lens [] c.blocks (row_view src c k) g.starts g.lens (length-view views (c.first + k)
      (row-there k h).row) (row-reach k h)

  -- a row's room, where the walk stands before it
  pub row_in : (k : ℕ) → k < c.rows → (vs bs : List ℕ) (s : Stand) → s ≡ stand_at most (row_view src c) k → length vs ≡ length vs₀ → length bs
      ≡ length bs₀ → RowIn (len_at src c k) vs bs k s
  row_in k h vs bs s e lv lb =
      record {
        row = omega (arith, w.rows);
        long = λ l.
            let b = stand-below most (row_view src c) k c.rows (omega arith) in
            let d = long-below most (row_view src c) k c.rows h l in
            let y = w.bytes in
            let f = w.few in
            rw e (record { row = omega (arith, w.rows); place = omega arith; long = l; small = omega arith; blocks = omega arith });
      }

  -- after all rows
  pub filled : (vs bs : List ℕ) (s : Stand) → Laid most (row_view src c) (row_shown src c) vs₀ bs₀ c.rows vs bs s → Filled most src c vs₀ bs₀ vs bs
  filled vs bs s l = record { views = l.views; bytes = l.bytes }

-- ---- the table

module _ (most : ℕ) (view : ℕ → List ℕ) (n : ℕ) (ss₀ ns₀ : List ℕ) (w : TableIn (stand_at most view n) ss₀ ns₀) where
  pub table-in : (k : ℕ) → k < n → (s : Stand) → s ≡ stand_at most view k → short_most < length_of (view k) → (s.closed < length ss₀) × (s.closed < length ns₀)
  table-in k h s e l =
      let b = stand-below most view k n (omega arith) in
      let d = long-below most view k n h l in
      let p = w.starts (omega arith) in
      let q = w.lens (omega arith) in
      rw e (omega arith, omega arith)

  pub few-at : (k : ℕ) → k ≤ n → (s : Stand) → s ≡ stand_at most view k → Few s
  few-at k h s e =
      let b = stand-below most view k n h in
      let f = w.few in
      rw e (record { small = omega arith; count = omega arith })

  module _ (ss ns : List ℕ) (s : Stand) (l : CutTabled most view ss₀ ns₀ n ss ns s) where
    pub listed-none : s.base + s.fill ≡ 0 → CutListed most view n ss₀ ns₀ ss ns
    listed-none z =
        let q = lens_none most view n (rw l.stand at z) in
        record { starts = rw q.0 (rw q.1 at l.starts); lens = rw q.0 (rw q.1 at l.lens) }

    pub last-in : (s.base + s.fill ≡ 0 → ⊥) → (s.closed < length ss₀) × (s.closed < length ns₀)
    last-in z =
        let e = l.stand in
        let y : s.base + s.fill ≡ (stand_at most view n).base + (stand_at most view n).fill = ap (λ (u : Stand). u.base + u.fill) e in
        let p = w.starts (omega (arith, z)) in
        let q = w.lens (omega (arith, z)) in
        rw e (p, q)

    pub listed-some : (s.base + s.fill ≡ 0 → ⊥) → CutListed most view n ss₀ ns₀ (set ss s.closed s.base) (set ns s.closed s.fill)
    unfolding stand_of
    listed-some z =
        let i = last-in z in
        let k : Cut = cut_all most (long_of (λ r. length_of (view r)) (λ r. length_of (view r)) n) in
        let q : cut_lens most (long_of (λ r. length_of (view r)) (λ r. length_of (view r)) n) ≡ (shut k).done = lens-some most view n (rw l.stand at z) in
        record {
          starts = rw (q, l.starts, l.stand) (shut-starts k ss₀ (rw l.stand at i.0));
          lens = rw (q, l.lens, l.stand) (shut-lens k ns₀ (rw l.stand at i.1));
        }

-- ---- no block, and one

module _ (most : ℕ) (view : ℕ → List ℕ) (n b t : ℕ) (ss ns : List ℕ) (q : CutCounted most view n b t) where
  abbrev of-long : List ℕ
  of-long = long_of (λ r. length_of (view r)) (λ r. length_of (view r)) n

  pub listed-empty : b ≡ 0 → CutListed most view n ss ns ss ns
  unfolding starts_from
  listed-empty e = by (cut_lens most of-long) refl (sym q.blocks ∙ e)
    where
      by : (l : List ℕ) → cut_lens most of-long ≡ l → length l ≡ 0 → CutListed most view n ss ns ss ns
      by [] f h = record { starts = rw f; lens = rw f }
      by (x ∷ l) f h = absurd (omega arith)

  -- there are bytes, so the table has the last block
  pub table-one : TableIn (stand_at most view n) ss ns → b ≡ 1 → (0 < length ss) × (0 < length ns)
  table-one w e =
      let s : Stand = stand_at most view n in
      let c = count-blocks most view n s refl in
      let some : (s.base + s.fill ≡ 0 → ⊥) = λ z. (let u : length (cut_lens most of-long) ≡ 0 = rw (eq-eqb (s.base + s.fill) 0 z) at c in
      omega (arith, q.blocks)) in
      by_cases (ℕ_discrete (s.base + s.fill) 0) (λ z. absurd (some z)) (λ z. let p = w.starts (omega arith) in let r = w.lens (omega arith) in
      (omega arith, omega arith))

  pub listed-one : TableIn (stand_at most view n) ss ns → b ≡ 1 → CutListed most view n ss ns (set ss 0 0) (set ns 0 t)
  unfolding starts_from
  listed-one w e = by (cut_lens most of-long) refl (sym q.blocks ∙ e)
    where
      by : (l : List ℕ) → cut_lens most of-long ≡ l → length l ≡ 1 → CutListed most view n ss ns (set ss 0 0) (set ns 0 t)
      by [] f h = absurd (omega arith)
      by (x ∷ []) f h =
          let i = table-one w e in
          let y : t ≡ x = q.bytes ∙ sym (lens-total most of-long) ∙ ap total f ∙ total-one x in
          record { starts = rw f (front-one ss 0 i.0); lens = rw (f, ← y) (front-one ns t i.1) }
      by (x ∷ (z ∷ l)) f h = absurd (omega arith)
