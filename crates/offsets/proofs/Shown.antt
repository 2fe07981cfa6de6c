-- The column from an offset column shows each row's value, a null row the empty one, has the source's bits, and is valid. Assumes nothing.
use mathlib.Core.Path.{◌≡◌, refl, sym, ap, ◌∙◌}
use mathlib.Core.Bool.{Bool, true, false, not}
use mathlib.Core.List.{List, [], ◌∷◌}
use Prim.Native.Nat.{ℕ, ◌+◌, ◌-◌, ◌^◌, ◌≤◌, ◌<◌}
use native.Mathlib.Nat.{zero-add}
use native.Mathlib.Omega.{arith}
use borrow.Author.Tests.{le-leb, leb-true, leb-false}
use lib.ListN.{length, take, drop, length-drop}
use lib.Seq.{take-append_seam, length-take-le}
use Rattle.basis.specs.Pick.{pick}
use Rattle.bounds.specs.Bounds.{byte-limit-small}
use Rattle.bounds.specs.Refusals.{refuse, is_accepted, refuse-no, accepted}
use Rattle.bounds.specs.declared.Refusal.TheVariants.{Fit, Range}
use Rattle.utf8.specs.Table.{well_formed, first_bad, bad_after}
use Rattle.null_bits.specs.Bits as bits
use Rattle.null_bits.specs.Runs.{put_bits}
use Rattle.null_bits.proofs.RunLaws.{length-bits}
use Rattle.views.specs.View.{short_most, is_short, view_at, make_view, zero_view}
use Rattle.views.specs.ViewLaws.{make-short, make-long, zero-view}
use Rattle.column.specs.declared.Kind.{Kind}
use Rattle.column.specs.declared.Kind.TheVariants.{Binary, Text}
use Rattle.column.specs.Lent.{Lent, block, block_at, fits, in_data, all_in_data, row_room, data_room}
use Rattle.column.specs.Meaning.{blocks_of, shown_at, row_valid}
use Rattle.column.specs.Truth.{of_kind, true_at}
use Rattle.column.proofs.LowestLaws.{lowest-none}
use Rattle.column.specs.Laid.{rows_of, views_of, bits_of}
use Rattle.showing.specs.Row.{Row, short_row, long-row}
use Rattle.showing.specs.Stores.{rows_same, get_d_rows}
use Rattle.showing.specs.Rooms.{rooms, row-room-same, block-room-same, data-room-same, fitted}
use Rattle.showing.specs.Truths.{AllIn, row-true}
use Rattle.showing.specs.LaidLaws.{bits-anew}
use Rattle.showing.specs.Shows.{Shows}
use Rattle.showing.proofs.ShowsLaws.{rows-by, shows-row, shows-value, shows-bit}
use Rattle.laying.specs.Written.{put_rows}
use Rattle.laying.specs.WrittenLaws.{length_front, length-put-rows, views-read}
use Rattle.validity.specs.Check.{why_invalid}
use Rattle.offsets.specs.Offsets.{Source, rows_in, valid_row, offset_at, cut_at, value_in, kind_at, any_null, row_view_of, why_offsets, from_offsets, offset_column}
use Rattle.offsets.specs.Steps.{CutIn}
use Rattle.offsets.specs.OffsetLaws.{null-none}
use Rattle.offsets.specs.CallLaws.{Given, given}

-- a row's part is as long as its offsets say, and lies in the bytes
module _ (w : ℕ) (os bs : List ℕ) (j : ℕ) (h : CutIn w os (length bs) j) where
  length_cut : length (cut_at w os bs j) ≡ offset_at w os (j + 1) - offset_at w os j
  unfolding cut_at
  length_cut = length-take-le (offset_at w os (j + 1) - offset_at w os j) (drop (offset_at w os j) bs) (rw length-drop (omega (arith, h.rise, h.last)))

  cut-part : take (length (cut_at w os bs j)) (drop (offset_at w os j) bs) ≡ cut_at w os bs j
  unfolding cut_at
  cut-part = ap (λ (n : ℕ). take n (drop (offset_at w os j) bs)) length_cut

  cut-row : length bs < 2 ^ 32 → Row (bs ∷ []) (make_view (cut_at w os bs j) 0 (offset_at w os j)) (cut_at w os bs j)
  cut-row small = by (is_short (length (cut_at w os bs j))) refl
    where
      by : (t : Bool) → is_short (length (cut_at w os bs j)) ≡ t → Row (bs ∷ []) (make_view (cut_at w os bs j) 0 (offset_at w os j)) (cut_at w os bs j)
      by true e =
          let k = leb-true (length (cut_at w os bs j)) short_most e in
          rw (make-short (cut_at w os bs j) 0 (offset_at w os j) k) (short_row (bs ∷ []) (cut_at w os bs j) k)
      by false e =
          let k = leb-false (length (cut_at w os bs j)) short_most e in
          let n = length_cut in
          let p = h.rise in
          let q = h.last in
          rw (make-long (cut_at w os bs j) 0 (offset_at w os j) k)
          (long-row (bs ∷ []) (cut_at w os bs j) 0 (offset_at w os j) k (record { len = omega arith; block = omega arith; offset = omega arith })
          (omega arith) cut-part)

none-of-kind : (k : Kind) → of_kind k [] ≡ true
unfolding well_formed first_bad bad_after
none-of-kind Binary = refl
none-of-kind Text = refl

room-any : (m : Bool) (l : Lent) → row_room true l ≤ row_room m l
unfolding row_room
room-any true l = omega arith
room-any false l = omega arith

module _ (w : ℕ) (s : Source) (k : Kind) (out : Lent) (g : Given w s k out) where
  abbrev made : Lent
  made = from_offsets w s out

  new_row : (j : ℕ) → j < rows_in w s → Row (s.bytes ∷ []) (row_view_of w s j) (value_in w s j)
  unfolding row_view_of value_in
  new_row j h = by (valid_row w s j)
    where
      by : (t : Bool) → Row (s.bytes ∷ []) (pick t (make_view (cut_at w s.offsets s.bytes j) 0 (offset_at w s.offsets j)) zero_view)
          (pick t (cut_at w s.offsets s.bytes j) [])
      by true = let m = rooms true out in cut-row w s.offsets s.bytes j (g.cut j h) (omega (arith, g.rooms.byte, m.most, byte-limit-small))
      by false = rw zero-view (short_row (s.bytes ∷ []) [] (omega arith))

  new-kind : (j : ℕ) → j < rows_in w s → of_kind k (value_in w s j) ≡ true
  unfolding value_in kind_at
  new-kind j h = by (valid_row w s j) (g.kinds j h)
    where
      by : (t : Bool) → pick t (of_kind k (cut_at w s.offsets s.bytes j)) true ≡ true → of_kind k (pick t (cut_at w s.offsets s.bytes j) []) ≡ true
      by true e = e
      by false e = none-of-kind k

  views-back : views_of made (offset_column w s k) ≡ rows_of (row_view_of w s) (rows_in w s)
  unfolding views_of from_offsets
  views-back =
      let m = rooms true out in
      rows_same (λ i. view_at (put_rows out.views (row_view_of w s) (rows_in w s)) (0 + i)) (view_at (put_rows out.views (row_view_of w s) (rows_in w s)))
      (rows_in w s) (λ i h. rw (zero-add i))
      ∙ views-read out.views (row_view_of w s) (rows_in w s) (λ r h. (new_row r h).size) (omega (arith, g.rooms.row))

  blocks-back : blocks_of made 1 ≡ s.bytes ∷ []
  unfolding blocks_of from_offsets
  blocks-back = ap (λ (x : List ℕ). x ∷ []) (take-append_seam s.bytes (drop (length s.bytes) out.bytes))

  bits_back : bits_of made (offset_column w s k) ≡ rows_of (valid_row w s) (rows_in w s)
  unfolding bits_of from_offsets row_valid bits.valid_at
  bits_back = by (any_null s.nulls s.mapped (rows_in w s)) refl
    where
      by : (t : Bool) → any_null s.nulls s.mapped (rows_in w s) ≡ t
          → rows_of (λ i. bits.valid_at (put_bits out.nulls 0 (valid_row w s) (rows_in w s)) t (0 + i)) (rows_in w s) ≡ rows_of (valid_row w s) (rows_in w s)
      by true e = bits-anew out.nulls (valid_row w s) (rows_in w s) (omega (arith, g.rooms.row, (rooms true out).nulls refl))
      by false e = rows_same (λ i. bits.valid_at (put_bits out.nulls 0 (valid_row w s) (rows_in w s)) false (0 + i)) (valid_row w s) (rows_in w s)
          (λ i h. sym (null-none s.nulls s.mapped (rows_in w s) e i h))

  length-views : length made.views ≡ length out.views
  unfolding from_offsets
  length-views = let m = rooms true out in length-put-rows out.views (row_view_of w s) (rows_in w s) (λ r h. (new_row r h).size) (omega (arith, g.rooms.row))

  length-bytes : length made.bytes ≡ length out.bytes
  unfolding from_offsets
  length-bytes = let m = rooms true out in length_front out.bytes s.bytes (omega (arith, g.rooms.byte))

  length-tables : length made.table ≡ length out.table
  unfolding from_offsets
  length-tables = let m = rooms true out in length_front out.table (block 0 (length s.bytes) ∷ []) (omega (arith, g.rooms.block))

  length-nulls : length made.nulls ≡ length out.nulls
  unfolding from_offsets
  length-nulls = length-bits out.nulls 0 (valid_row w s) (rows_in w s)

  fits-back : fits made (offset_column w s k) ≡ true
  fits-back =
      let m : Bool = any_null s.nulls s.mapped (rows_in w s) in
      fitted made (offset_column w s k)
      (record {
        rows = omega (arith, g.rooms.row, row-room-same m made out length-views length-nulls, room-any m out);
        blocks = omega (arith, g.rooms.block, block-room-same made out length-tables);
      })

  block_back : block_at made 0 ≡ block 0 (length s.bytes)
  unfolding from_offsets
  block_back = refl

  inside_back : AllIn made 1
  inside_back i h = let e : i ≡ 0 = omega arith in rw (e, block_back) (omega (arith, g.rooms.byte, data-room-same made out length-bytes))

  pub made-shows : Shows made (offset_column w s k) (rows_of (value_in w s) (rows_in w s)) (rows_of (valid_row w s) (rows_in w s))
  made-shows =
      record {
        rows = rw (blocks-back, views-back) (rows-by (s.bytes ∷ []) (row_view_of w s) (value_in w s) (rows_in w s) new_row);
        bits = bits_back;
        fitted = fits-back;
        inside = inside_back;
      }

  made-true : (j : ℕ) → j < rows_in w s → true_at k made (offset_column w s k) j ≡ true
  made-true j h = row-true made k 1 inside_back (shows-row made-shows j h) (rw (get_d_rows (value_in w s) (rows_in w s) j [] h) (new-kind j h))

  made_inside : all_in_data made 1 ≡ true
  unfolding all_in_data in_data
  made_inside = le-leb ((block_at made 0).start + (block_at made 0).len) (data_room made) (inside_back 0 (omega arith))

  pub made-valid : accepted ≡ why_invalid made (offset_column w s k)
  unfolding why_invalid
  made-valid =
      refuse-no Fit (not (fits made (offset_column w s k))) _ accepted (rw fits-back)
      (refuse-no Range (not (all_in_data made 1)) accepted accepted (rw made_inside) refl
      ∙ lowest-none (true_at k made (offset_column w s k)) (rows_in w s) (refuse Range (not (all_in_data made 1)) accepted) made-true)

-- ---- of an accepted call, whatever the width

module _ (w : ℕ) (s : Source) (k : Kind) (out : Lent) (a : is_accepted (why_offsets w s k out) ≡ true) where
  -- the rows show the values, a null one the empty value, and have the source's bits
  pub offsets-shows : Shows (from_offsets w s out) (offset_column w s k) (rows_of (value_in w s) (rows_in w s)) (rows_of (valid_row w s) (rows_in w s))
  offsets-shows = made-shows w s k out (given w s k out a)

  pub offsets-valid : accepted ≡ why_invalid (from_offsets w s out) (offset_column w s k)
  offsets-valid = made-valid w s k out (given w s k out a)

  module _ (r : ℕ) (h : r < rows_in w s) where
    pub offsets-kind : of_kind k (value_in w s r) ≡ true
    offsets-kind = new-kind w s k out (given w s k out a) r h

    pub offsets-value : shown_at (from_offsets w s out) (offset_column w s k) r ≡ value_in w s r
    offsets-value = shows-value offsets-shows r h ∙ get_d_rows (value_in w s) (rows_in w s) r [] h

    pub offsets-bit : row_valid (from_offsets w s out) (offset_column w s k) r ≡ valid_row w s r
    offsets-bit = shows-bit offsets-shows r h ∙ get_d_rows (valid_row w s) (rows_in w s) r true h

    pub offsets-null : valid_row w s r ≡ false → shown_at (from_offsets w s out) (offset_column w s k) r ≡ []
    unfolding value_in
    offsets-null e = offsets-value ∙ rw e

    pub offsets-cut : valid_row w s r ≡ true → shown_at (from_offsets w s out) (offset_column w s k) r ≡ cut_at w s.offsets s.bytes r
    unfolding value_in
    offsets-cut e = offsets-value ∙ rw e
