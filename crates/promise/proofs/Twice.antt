-- Compacting a compacted column at the same maximum makes the same views, records and bytes. Assumes nothing.
use Rattle.bounds.specs.Refusals.{accepted}
use mathlib.Core.Path.{◌≡◌, refl, sym, ap, ◌∙◌}
use mathlib.Core.Bool.{Bool, true, false}
use mathlib.Core.List.{List, []}
use Prim.Native.Nat.{ℕ, zero, suc, ◌<◌}
use native.Mathlib.Omega.{arith}
use lib.ListN.{length, take, drop}
use lib.Seq.{take_at}
use Rattle.views.specs.View.{length_of, is_short}
use Rattle.column.specs.declared.Column.{Column}
use Rattle.column.specs.Lent.{Lent}
use Rattle.column.specs.Meaning.{row_view, blocks_of, shown_at}
use Rattle.showing.specs.Stores.{get_d_rows, rows_same}
use Rattle.showing.proofs.ShowsLaws.{shows-row}
use Rattle.laying.specs.WrittenLaws.{length-records, records}
use Rattle.compaction.specs.Cut.{cut_lens}
use Rattle.compaction.specs.Compact.{long_of, row_shown, new_view, new_lens, why_compact, compacted, compact_column}
use Rattle.compaction.proofs.LaidLaws.{view-short, view-long}
use Rattle.compaction.proofs.Kept.{fills, blocks_out}
use Rattle.compaction.proofs.Compacted.{room, old_row, views-back, blocks-back, compacted-alike, compacted-shows}
use Rattle.compaction.proofs.Bound.{row_back}
use Rattle.promise.specs.Compactions.{Unchanged}

-- what is made of the long rows depends on the rows' lengths and on what is said of each
pub long_same : {A : Type 0} (len len' : ℕ → ℕ) (f g : ℕ → A) (n : ℕ) → ((r : ℕ) → r < n → len r ≡ len' r) → ((r : ℕ) → r < n → f r ≡ g r)
    → long_of len f n ≡ long_of len' g n
unfolding long_of
long_same len len' f g zero h k = refl
long_same len len' f g (suc n) h k = rw (long_same len len' f g n (λ r l. h r (omega arith)) (λ r l. k r (omega arith)), h n (omega arith), k n (omega arith))

fills_same : (most : ℕ) (view view' value value' : ℕ → List ℕ) (n : ℕ) → ((r : ℕ) → r < n → length_of (view r) ≡ length_of (view' r))
    → ((r : ℕ) → r < n → value r ≡ value' r)
    → fills most view value n ≡ fills most view' value' n
unfolding fills
fills_same most view view' value value' zero h k = refl
fills_same most view view' value value' (suc n) h k =
    rw (fills_same most view view' value value' n (λ r l. h r (omega arith)) (λ r l. k r (omega arith)), h n (omega arith), k n (omega arith))

blocks-same : (most : ℕ) (view view' value value' : ℕ → List ℕ) (n : ℕ) → ((r : ℕ) → r < n → length_of (view r) ≡ length_of (view' r))
    → ((r : ℕ) → r < n → value r ≡ value' r)
    → blocks_out most view value n ≡ blocks_out most view' value' n
unfolding blocks_out
blocks-same most view view' value value' n h k =
    rw (
      long_same (λ r. length_of (view r)) (λ r. length_of (view' r)) (λ r. length_of (view r)) (λ r. length_of (view' r)) n h h,
      fills_same most view
          view' value value' n h k,
    )

-- the records of a new table
pub table-front-is : (most : ℕ) (l : Lent) (c : Column) (out : Lent) → take (length (new_lens most l c)) (compacted most l c out).table
    ≡ records 0 (new_lens most l c)
unfolding compacted
table-front-is most l c out =
    take_at (records 0 (new_lens most l c)) (drop (length (records 0 (new_lens most l c))) out.table) (length (new_lens most l c))
    (length-records 0 (new_lens most l c))

module _ (most : ℕ) (l : Lent) (c : Column) (out : Lent) (a : why_compact most l c out ≡ accepted) where
  abbrev new : Lent
  new = compacted most l c out

  abbrev column : Column
  column = compact_column most l c

  pub value-again : (r : ℕ) → r < c.rows → row_shown new column r ≡ row_shown l c r
  unfolding shown_at
  value-again r h = (shows-row (compacted-alike most l c out a) r h).val ∙ get_d_rows (shown_at l c) c.rows r [] h

  view-new : (r : ℕ) → r < c.rows → row_view new column r ≡ new_view most l c r
  view-new r h = row_back most l c out (room most l c out a) r h

  length-again : (r : ℕ) → r < c.rows → length_of (row_view new column r) ≡ length_of (row_view l c r)
  unfolding shown_at
  length-again r h =
      (shows-row (compacted-alike most l c out a) r h).len ∙ ap length (get_d_rows (shown_at l c) c.rows r [] h)
      ∙ sym (old_row most l c out (room most l c out a) r h).len

  lens-again : new_lens most new column ≡ new_lens most l c
  lens-again =
      ap (cut_lens most) (long_same (λ r. length_of (row_view new column r)) (λ r. length_of (row_view l c r)) (λ r. length_of (row_view new column r))
      (λ r. length_of (row_view l c r)) c.rows length-again length-again)

  view-again : (r : ℕ) → r < c.rows → new_view most new column r ≡ new_view most l c r
  view-again r h = by (is_short (length_of (row_view l c r))) refl
    where
      by : (t : Bool) → is_short (length_of (row_view l c r)) ≡ t → new_view most new column r ≡ new_view most l c r
      by true e = view-short most (row_view new column) (row_shown new column) r (rw (length-again r h) e) ∙ view-new r h
      by false e =
          let lens : long_of (λ q. length_of (row_view new column q)) (λ q. length_of (row_view new column q)) r ≡ long_of (λ q. length_of (row_view l c q))
          (λ q. length_of (row_view l c q)) r =
          long_same (λ q. length_of (row_view new column q)) (λ q. length_of (row_view l c q)) (λ q. length_of (row_view new column q))
          (λ q. length_of (row_view l c q)) r
          (λ q k. length-again q (omega arith)) (λ q k. length-again q (omega arith)) in
          view-long most (row_view new column) (row_shown new column) r (rw (length-again r h) e)
          ∙ rw (length-again r h, lens, value-again r h) (sym (view-long most (row_view l c) (row_shown l c) r e))

  pub twice : (out₂ : Lent) → why_compact most new column out₂ ≡ accepted → Unchanged new column (compacted most new column out₂) (compact_column most new column)
  twice out₂ b =
      let once = room most l c out a in
      let more = room most new column out₂ b in
      record {
        column = ap (λ (ns : List ℕ). record { first = 0; rows = c.rows; blocks = length ns; kind = c.kind; mapped = c.mapped }) lens-again;
        views = views-back most new column out₂ more ∙ rows_same (new_view most new column) (new_view most l c) c.rows view-again
            ∙ sym (views-back most l c out once);
        table =
            ap (λ (ns : List ℕ). take (length ns) (compacted most new column out₂).table) (sym lens-again) ∙ table-front-is most new column out₂
            ∙ ap (records 0) lens-again ∙ sym (table-front-is most l c out);
        blocks =
            ap (λ (ns : List ℕ). blocks_of (compacted most new column out₂) (length ns)) (sym lens-again) ∙ blocks-back most new column out₂ more
            ∙ blocks-same most (row_view new column) (row_view l c) (row_shown new column) (row_shown l c) c.rows length-again value-again
            ∙ sym (blocks-back most l c out once);
        bits = (compacted-shows most new column out₂ (compacted-alike most l c out a) b).bits ∙ sym (compacted-alike most l c out a).bits;
      }
