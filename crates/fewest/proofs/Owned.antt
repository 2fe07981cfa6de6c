-- The cut that a compacted column makes is the walk's, with its blocks as the values in them: it is lawful, and has the blocks that aren't empty. Assumes
-- nothing.
use Rattle.bounds.specs.Refusals.{accepted}
use mathlib.Core.Path.{◌≡◌, refl, sym, ap, ◌∙◌}
use mathlib.Core.Bool.{Bool, true, false, not, true≢false}
use mathlib.Core.List.{List, [], ◌∷◌, ◌++◌, map, map-append, map-map, append-nil, flatten}
use Prim.Native.Nat.{ℕ, zero, suc, ◌^◌, ◌<◌}
use native.Mathlib.Omega.{arith}
use lib.Dec.{ltb}
use lib.ListN.{length, get_or, length-append, length-map}
use Rattle.basis.specs.Pick.{pick}
use Rattle.views.specs.View.{is_short, length_of}
use Rattle.column.specs.declared.Column.{Column}
use Rattle.column.specs.Lent.{Lent}
use Rattle.column.specs.Meaning.{row_view, blocks_of, shown_at}
use Rattle.column.specs.Laid.{rows_of, flat}
use Rattle.showing.specs.Row.{Row}
use Rattle.showing.specs.Stores.{rows_same, rows-list}
use Rattle.compaction.specs.Cut.{is_none}
use Rattle.compaction.specs.Compact.{long_of, long_lens, row_shown, view_by, new_view, new_lens, why_compact, compacted, compact_column}
use Rattle.compaction.specs.Bounded.{points}
use Rattle.compaction.proofs.Kept.{filled, fills, blocks_out}
use Rattle.compaction.proofs.Compacted.{Room, room, old_row, old-sized, lens-new, bytes_small}
use Rattle.compaction.proofs.Bound.{row_back}
use Rattle.promise.proofs.Twice.{value-again}
use Rattle.fewest.specs.Lawful.{those, long_rows, is_lawful, Lawful}
use Rattle.fewest.specs.Fewest.{rows_into, own_cut}
use Rattle.fewest.proofs.Those.{those-append, those-map, those-each, those-same, those-flatten}
use Rattle.fewest.proofs.Counted.{filled_in}
use Rattle.fewest.proofs.Grouped.{grouped, grouping, fill-grouping, order-grouping, Good, good-grouping, into, into-grouping}

-- ---- the long ones among what rows show

module _ (len : ℕ → ℕ) (value : ℕ → List ℕ) where
  long-rows : (n : ℕ) → ((r : ℕ) → r < n → length (value r) ≡ len r) → those (λ x. not (is_short (length x))) (rows_of value n) ≡ long_of len value n
  unfolding those rows_of long_of
  long-rows zero h = refl
  long-rows (suc n) h =
      those-append (λ x. not (is_short (length x))) (rows_of value n) (value n ∷ [])
      ∙ rw (long-rows n (λ r l. h r (omega arith)), h n (omega arith)) (by (is_short (len n)))
    where
      by : (t : Bool) → long_of len value n ++ pick (not t) (value n ∷ []) [] ≡ long_of len value n ++ pick t [] (value n ∷ [])
      by true = refl
      by false = refl

  -- and their lengths
  long-lengths : (n : ℕ) → ((r : ℕ) → r < n → length (value r) ≡ len r) → map length (long_of len value n) ≡ long_of len len n
  unfolding long_of
  long-lengths zero h = refl
  long-lengths (suc n) h = by (is_short (len n)) (long-lengths n (λ r l. h r (omega arith)))
    where
      by : (t : Bool) → map length (long_of len value n) ≡ long_of len len n
          → map length (long_of len value n ++ pick t [] (value n ∷ [])) ≡ long_of len len n ++ pick t [] (len n ∷ [])
      by true e = rw (append-nil (long_of len value n), append-nil (long_of len len n)) e
      by false e = rw (map-append length (long_of len value n) (value n ∷ []), e, h n (omega arith))

-- ---- the blocks of a walk over rows: none where no row is long

unfoldable groups_out : ℕ → (ℕ → List ℕ) → (ℕ → List ℕ) → ℕ → List (List (List ℕ))
groups_out most view value n = pick (is_none (long_of (λ r. length_of (view r)) (λ r. length_of (view r)) n)) [] (grouped (grouping most view value n))

module _ (most : ℕ) (view value : ℕ → List ℕ) (n : ℕ) where
  abbrev lens : List ℕ
  lens = long_of (λ r. length_of (view r)) (λ r. length_of (view r)) n

  bytes-out : map flat (groups_out most view value n) ≡ blocks_out most view value n
  unfolding groups_out blocks_out
  bytes-out = by (is_none lens)
    where
      by : (t : Bool) → map flat (pick t [] (grouped (grouping most view value n))) ≡ pick t [] (filled (fills most view value n))
      by true = refl
      by false =
          map-append flat (grouping most view value n).done ((grouping most view value n).now ∷ [])
          ∙ ap filled (fill-grouping most view value n)

  module _ (sized : (r : ℕ) → r < n → length (value r) ≡ length_of (view r)) where
    order-out : flatten (groups_out most view value n) ≡ long_of (λ r. length_of (view r)) value n
    unfolding groups_out flatten
    order-out = by (is_none lens) refl
      where
        none : (xs : List (List ℕ)) → is_none (map length xs) ≡ true → [] ≡ xs
        none [] e = refl
        none (x ∷ xs) e = absurd (true≢false (sym e))

        by : (t : Bool) → is_none lens ≡ t → flatten (pick t [] (grouped (grouping most view value n))) ≡ long_of (λ r. length_of (view r)) value n
        by true e = none (long_of (λ r. length_of (view r)) value n) (rw (long-lengths (λ r. length_of (view r)) value n sized) e)
        by false e = order-grouping most view value n

    good-out : (k : ℕ) → k < length (groups_out most view value n) → Good most (get_or (groups_out most view value n) k [])
    unfolding groups_out
    good-out = by (is_none lens)
      where
        by : (t : Bool) → (k : ℕ) → k < length (pick t [] (grouped (grouping most view value n)))
            → Good most (get_or (pick t [] (grouped (grouping most view value n))) k [])
        by true k l = absurd (omega arith)
        by false k l = good-grouping most view value n sized k

    into-out : (bs : List (List ℕ)) → ((r : ℕ) → r < n → Row bs (view r) (value r)) → length (blocks_out most view value n) < 2 ^ 32
        → length (flat (blocks_out most view value n)) < 2 ^ 32
        → rows_of (λ k. into k (view_by most view value) value n) (length (groups_out most view value n)) ≡ groups_out most view value n
    unfolding groups_out blocks_out
    into-out bs h p q = by (is_none lens) p q
      where
        by : (t : Bool) → length (pick t [] (filled (fills most view value n))) < 2 ^ 32 → length (flat (pick t [] (filled (fills most view value n)))) < 2 ^ 32
            → rows_of (λ k. into k (view_by most view value) value n) (length (pick t [] (grouped (grouping most view value n))))
            ≡ pick t [] (grouped (grouping most view value n))
        by true p q = rows-list (λ k. into k (view_by most view value) value n) [] [] (λ k l. absurd (omega arith))
        by false p q =
            rows-list (λ k. into k (view_by most view value) value n) (grouped (grouping most view value n)) []
            (λ k l. into-grouping most view value bs n h (record { count = omega (arith, simp length-append at p); bytes = q }) k)

-- ---- of a column

into-same : (f g value value' : ℕ → List ℕ) (k n : ℕ) → ((i : ℕ) → i < n → f i ≡ g i) → ((i : ℕ) → i < n → value i ≡ value' i)
    → map value (those (λ r. points k (f r)) (rows_of (λ r. r) n)) ≡ into k g value' n
unfolding those rows_of
into-same f g value value' k zero h j = refl
into-same f g value value' k (suc n) h j =
    ap (map value) (those-append (λ r. points k (f r)) (rows_of (λ r. r) n) (n ∷ []))
    ∙ map-append value (those (λ r. points k (f r)) (rows_of (λ r. r) n)) (pick (points k (f n)) (n ∷ []) [])
    ∙ rw (into-same f g value value' k n (λ i l. h i (omega arith)) (λ i l. j i (omega arith)), h n (omega arith)) (by (points k (g n)))
  where
    by : (t : Bool) → into k g value' n ++ map value (pick t (n ∷ []) []) ≡ into k g value' n ++ pick t (value' n ∷ []) []
    by true = rw (j n (omega arith))
    by false = refl

module _ (most : ℕ) (l : Lent) (c : Column) (out : Lent) (a : why_compact most l c out ≡ accepted) where
  abbrev new : Lent
  new = compacted most l c out

  abbrev column : Column
  column = compact_column most l c

  abbrev r : Room most l c out
  r = room most l c out a

  abbrev cuts : List (List (List ℕ))
  cuts = groups_out most (row_view l c) (row_shown l c) c.rows

  long-column : long_rows l c ≡ long_of (λ i. length_of (row_view l c i)) (row_shown l c) c.rows
  unfolding shown_at
  long-column = long-rows (λ i. length_of (row_view l c i)) (row_shown l c) c.rows (old-sized most l c out r)

  pub long-lens : map length (long_rows l c) ≡ long_lens l c c.rows
  long-lens = ap (map length) long-column ∙ long-lengths (λ i. length_of (row_view l c i)) (row_shown l c) c.rows (old-sized most l c out r)

  cuts-lens : map (λ (b : List (List ℕ)). length (flat b)) cuts ≡ new_lens most l c
  cuts-lens = sym (map-map length flat cuts) ∙ ap (map length) (bytes-out most (row_view l c) (row_shown l c) c.rows) ∙ lens-new most l c out r

  cuts-count : length cuts ≡ length (new_lens most l c)
  cuts-count = sym (length-map cuts (λ (b : List (List ℕ)). length (flat b))) ∙ ap length cuts-lens

  own_is : rows_of (λ k. map (shown_at new column) (rows_into new column k)) (length (new_lens most l c)) ≡ cuts
  unfolding shown_at
  own_is =
      rows_same (λ k. map (shown_at new column) (rows_into new column k)) (λ k. into k (new_view most l c) (row_shown l c) c.rows) (length (new_lens most l c))
      (λ k h. into-same (row_view new column) (new_view most l c) (shown_at new column) (row_shown l c) k c.rows (row_back most l c out r)
      (value-again most l c out a))
      ∙ ap (rows_of (λ k. into k (new_view most l c) (row_shown l c) c.rows)) (sym cuts-count)
      ∙ into-out most (row_view l c) (row_shown l c) c.rows (old-sized most l c out r) (blocks_of l c.blocks) (old_row most l c out r)
      (bytes_small most l c out r).0 (bytes_small most l c out r).1

  pub own-lawful : Lawful most (long_rows l c) (own_cut new column)
  own-lawful =
      record {
        whole = rw own_is (those-flatten cuts ∙ order-out most (row_view l c) (row_shown l c) c.rows (old-sized most l c out r) ∙ sym long-column);
        each = rw own_is (those-each [] (λ (b : List (List ℕ)). is_lawful most b ≡ true) (λ b. ltb 0 (length b)) cuts
            (λ k h. (good-out most (row_view l c) (row_shown l c) c.rows (old-sized most l c out r) k h).lawful));
      }

  pub own-count : length (own_cut new column) ≡ filled_in (new_lens most l c)
  own-count =
      rw own_is
      (ap length (those-same [] (λ b. ltb 0 (length b)) (λ b. ltb 0 (length (flat b))) cuts
      (λ k h. (good-out most (row_view l c) (row_shown l c) c.rows (old-sized most l c out r) k h).full))
      ∙ those-map (ltb 0) (λ (b : List (List ℕ)). length (flat b)) cuts ∙ ap filled_in cuts-lens)
