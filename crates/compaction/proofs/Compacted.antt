-- A compacted column shows what the column showed, with the same bits, and is true again. Assumes nothing.
use Rattle.bounds.specs.Refusals.{accepted}
use mathlib.Core.Path.{◌≡◌, refl, sym, ap, ◌∙◌}
use mathlib.Core.Bool.{Bool, true, false, not, ◌&&◌}
use mathlib.Core.List.{List, [], map}
use Prim.Native.Nat.{ℕ, ◌+◌, ◌*◌, ◌^◌, ◌≤◌, ◌<◌}
use native.Mathlib.Nat.{zero-add}
use native.Mathlib.Omega.{arith}
use borrow.Author.Tests.{ltb-false, not-false}
use lib.Dec.{ltb}
use lib.ListN.{length, get_or, length-map, get_or-append}
use Rattle.basis.specs.Pick.{pick}
use Rattle.bounds.specs.Bounds.{most_compaction, block-limit-small, byte-limit-small}
use Rattle.bounds.specs.declared.Refusal.TheVariants.{Setting, Fit, RowRoom, BlockRoom, DataRoom}
use Rattle.null_bits.specs.Bits as bits
use Rattle.null_bits.specs.Runs.{put_bits}
use Rattle.null_bits.proofs.RunLaws.{length-bits}
use Rattle.views.specs.View.{view_size, view_at, length_of}
use Rattle.column.specs.declared.Column.{Column}
use Rattle.column.specs.Lent.{Lent, block, block_at, fits, row_room, block_room, data_room}
use Rattle.column.specs.Meaning.{row_view, blocks_of, shown, shown_at, row_valid}
use Rattle.column.specs.Truth.{reachable, honest, of_kind, is_true, true_at}
use Rattle.column.specs.Laid.{rows_of, views_of, bits_of, flat}
use Rattle.showing.specs.Row.{Row}
use Rattle.showing.specs.Rows.{Rows}
use Rattle.showing.proofs.RowsLaws.{rows_at}
use Rattle.showing.specs.Stores.{length-rows, get_d_rows, rows_same, rows-list}
use Rattle.showing.specs.Rooms.{rooms, row-room-same, block-room-same, data-room-same, fitted, passed, all-passed, both}
use Rattle.showing.specs.Truths.{AllIn, row-true, true-row}
use Rattle.showing.specs.LaidLaws.{bits-anew}
use Rattle.showing.specs.Shows.{Shows}
use Rattle.showing.proofs.ShowsLaws.{view-size, shows-rows, shows-row}
use Rattle.compaction.proofs.LaidLaws.{flat-total, lens-total}
use Rattle.compaction.specs.Compact.{long_lens, row_shown, new_lens, new_bytes, new_view, why_compact, compacted, compact_column}
use Rattle.compaction.proofs.Kept.{blocks_out, lens-out, flat_out, rows_out}
use Rattle.laying.specs.Rooms.{why_rooms}
use Rattle.laying.specs.Written.{put_rows, total}
use Rattle.laying.specs.WrittenLaws.{blocks-read, length_front, length-put-rows, length-records, record-ends, records, views-read}

-- what an accepted call tells
pub record Room (most : ℕ) (l : Lent) (c : Column) (out : Lent) : Type 0 where
  pub fitted : fits l c ≡ true
  pub judged : (r : ℕ) → r < c.rows → true_at c.kind l c r ≡ true
  pub rows : c.rows ≤ row_room c.mapped out
  pub blocks : length (new_lens most l c) ≤ block_room out
  pub bytes : total (long_lens l c c.rows) ≤ data_room out

pub room : (most : ℕ) (l : Lent) (c : Column) (out : Lent) → why_compact most l c out ≡ accepted → Room most l c out
unfolding why_compact why_rooms
room most l c out e =
    let a = passed Setting (ltb most_compaction most) _ e in
    let b = passed Fit (not (fits l c)) _ a.1 in
    let d = all-passed (true_at c.kind l c) c.rows _ b.1 in
    let f = passed RowRoom (ltb (row_room c.mapped out) c.rows) _ d.1 in
    let g = passed BlockRoom (ltb (block_room out) (length (new_lens most l c))) _ f.1 in
    let h = passed DataRoom (ltb (data_room out) (total (long_lens l c c.rows))) _ g.1 in
    record {
      fitted = not-false (fits l c) b.0;
      judged = d.0;
      rows = ltb-false (row_room c.mapped out) c.rows f.0;
      blocks = ltb-false (block_room out) (length (new_lens most l c)) g.0;
      bytes = ltb-false (data_room out) (total (long_lens l c c.rows)) h.0;
    }

-- the new blocks as bytes
abbrev pub new_blocks : ℕ → Lent → Column → List (List ℕ)
new_blocks most l c = blocks_out most (row_view l c) (row_shown l c) c.rows

module _ (most : ℕ) (l : Lent) (c : Column) (out : Lent) (r : Room most l c out) where
  pub old_row : (i : ℕ) → i < c.rows → Row (blocks_of l c.blocks) (row_view l c i) (row_shown l c i)
  old_row i h = true-row l c.kind c.blocks (row_view l c i) (view-size l c r.fitted i h) (r.judged i h)

  pub old-sized : (i : ℕ) → i < c.rows → length (row_shown l c i) ≡ length_of (row_view l c i)
  old-sized i h = sym (old_row i h).len

  pub lens-new : map length (new_blocks most l c) ≡ new_lens most l c
  lens-new = lens-out most (row_view l c) (row_shown l c) c.rows old-sized

  pub count-new : length (new_blocks most l c) ≡ length (new_lens most l c)
  count-new = sym (length-map (new_blocks most l c) length) ∙ ap length lens-new

  bytes-new : flat (new_blocks most l c) ≡ new_bytes l c
  bytes-new = flat_out most (row_view l c) (row_shown l c) c.rows

  total-new : length (new_bytes l c) ≡ total (long_lens l c c.rows)
  total-new = flat-total (λ q. length_of (row_view l c q)) (row_shown l c) c.rows old-sized

  pub bytes_small : (length (new_blocks most l c) < 2 ^ 32) × (length (flat (new_blocks most l c)) < 2 ^ 32)
  bytes_small =
      let m = rooms true out in
      (omega (arith, count-new, r.blocks, block-limit-small), rw (bytes-new, total-new) (omega (arith, r.bytes, byte-limit-small)))

  pub new-rows : Rows (new_blocks most l c) (rows_of (new_view most l c) c.rows) (rows_of (row_shown l c) c.rows)
  new-rows = rows_out most (row_view l c) (row_shown l c) c.rows (blocks_of l c.blocks) old_row bytes_small.0 bytes_small.1

  new-sized : (i : ℕ) → i < c.rows → length (new_view most l c i) ≡ view_size
  new-sized i h =
      let e : length (rows_of (new_view most l c) c.rows) ≡ c.rows = length-rows (new_view most l c) c.rows in
      ap length (sym (get_d_rows (new_view most l c) c.rows i [] h)) ∙ (rows_at new-rows i (rw e h)).size

  pub views-back : views_of (compacted most l c out) (compact_column most l c) ≡ rows_of (new_view most l c) c.rows
  unfolding views_of compacted
  views-back =
      let m = rooms c.mapped out in
      rows_same (λ i. view_at (put_rows out.views (new_view most l c) c.rows) (0 + i)) (view_at (put_rows out.views (new_view most l c) c.rows))
      c.rows (λ i h. rw (zero-add i))
      ∙ views-read out.views (new_view most l c) c.rows new-sized (omega (arith, r.rows))

  pub blocks-back : blocks_of (compacted most l c out) (length (new_lens most l c)) ≡ new_blocks most l c
  unfolding compacted
  blocks-back =
      rw (← count-new, ← lens-new, ← bytes-new)
      (blocks-read out.bytes out.table (new_blocks most l c) (put_rows out.views (new_view most l c) c.rows)
      (pick c.mapped (put_bits out.nulls 0 (row_valid l c) c.rows) out.nulls))

  bits_back : bits_of (compacted most l c out) (compact_column most l c) ≡ bits_of l c
  unfolding bits_of compacted row_valid bits.valid_at
  bits_back = by c.mapped refl (rooms c.mapped out).nulls
    where
      by : (t : Bool) → c.mapped ≡ t → (c.mapped ≡ true → row_room c.mapped out ≤ 8 * length out.nulls)
          → rows_of (λ i. bits.valid_at (pick t (put_bits out.nulls 0 (row_valid l c) c.rows) out.nulls) t (0 + i)) c.rows
          ≡ rows_of (row_valid l c) c.rows
      by true e m = bits-anew out.nulls (row_valid l c) c.rows (omega (arith, r.rows, m e))
      by false e m = rows_same (λ i. bits.valid_at out.nulls false (0 + i)) (row_valid l c) c.rows (λ i h. rw e)

  length-bytes : length (compacted most l c out).bytes ≡ length out.bytes
  unfolding compacted
  length-bytes = let m = rooms c.mapped out in length_front out.bytes (new_bytes l c) (omega (arith, total-new, r.bytes))

  length-nulls : length (compacted most l c out).nulls ≡ length out.nulls
  unfolding compacted
  length-nulls = by c.mapped
    where
      by : (t : Bool) → length (pick t (put_bits out.nulls 0 (row_valid l c) c.rows) out.nulls) ≡ length out.nulls
      by true = length-bits out.nulls 0 (row_valid l c) c.rows
      by false = refl

  length-tables : length (compacted most l c out).table ≡ length out.table
  unfolding compacted
  length-tables =
      let m = rooms c.mapped out in
      length_front out.table (records 0 (new_lens most l c)) (omega (arith, length-records 0 (new_lens most l c), r.blocks))

  length-rooms : length (compacted most l c out).views ≡ length out.views
  unfolding compacted
  length-rooms = let m = rooms c.mapped out in length-put-rows out.views (new_view most l c) c.rows new-sized (omega (arith, r.rows))

  fits-back : fits (compacted most l c out) (compact_column most l c) ≡ true
  fits-back =
      fitted (compacted most l c out) (compact_column most l c)
      (record {
        rows = omega (arith, r.rows, row-room-same c.mapped (compacted most l c out) out length-rooms length-nulls);
        blocks = omega (arith, r.blocks, block-room-same (compacted most l c out) out length-tables);
      })

  -- a record of the new table
  pub record-at : (k : ℕ) → k < length (new_lens most l c) → block_at (compacted most l c out) k ≡ get_or (records 0 (new_lens most l c)) k (block 0 0)
  unfolding compacted
  record-at k h = get_or-append (records 0 (new_lens most l c)) _ (block 0 0) k (rw (length-records 0 (new_lens most l c)) h)

  inside_back : AllIn (compacted most l c out) (length (new_lens most l c))
  inside_back k h =
      rw (record-at k h) (omega (
        arith,
        record-ends 0 (new_lens most l c) k h,
        lens-total most (long_lens l c c.rows),
        r.bytes,
        data-room-same
            (compacted most l c out) out length-bytes,
      ))

  pub compact-shows : Shows (compacted most l c out) (compact_column most l c) (rows_of (row_shown l c) c.rows) (bits_of l c)
  compact-shows =
      record {
        rows = rw (blocks-back, views-back) new-rows;
        bits = bits_back;
        fitted = fits-back;
        inside = inside_back;
      }

-- whatever the column, each row shows what it showed
pub compacted-alike : (most : ℕ) (l : Lent) (c : Column) (out : Lent) → why_compact most l c out ≡ accepted
    → Shows (compacted most l c out) (compact_column most l c) (rows_of (shown_at l c) c.rows) (bits_of l c)
unfolding shown_at
compacted-alike most l c out e = compact-shows most l c out (room most l c out e)

-- a column that shows values and bits shows them compacted
pub compacted-shows : (most : ℕ) (l : Lent) (c : Column) (out : Lent) {xs : List (List ℕ)} {bs : List Bool} → Shows l c xs bs
    → why_compact most l c out ≡ accepted
    → Shows (compacted most l c out) (compact_column most l c) xs bs
compacted-shows most l c out {xs} {bs} s e =
    let n : c.rows ≡ length xs = shows-rows s in
    let v : rows_of (row_shown l c) c.rows ≡ xs = ap (rows_of (row_shown l c)) n ∙ rows-list (row_shown l c) xs [] (λ i h. (shows-row s i (rw n h)).val) in
    rw (s.bits, v) at (compact-shows most l c out (room most l c out e))

-- and is true
pub compacted-true : (most : ℕ) (l : Lent) (c : Column) (out : Lent) → why_compact most l c out ≡ accepted
    → (i : ℕ) → i < c.rows → true_at c.kind (compacted most l c out) (compact_column most l c) i ≡ true
unfolding is_true shown_at
compacted-true most l c out e i h =
    let s = compacted-alike most l c out e in
    let v : List ℕ = row_view l c i in
    let x : List ℕ = shown (blocks_of l c.blocks) v in
    let p = both (reachable l c.blocks v) (honest v x && of_kind c.kind x) ((room most l c out e).judged i h) in
    let k : of_kind c.kind x ≡ true = (both (honest v x) (of_kind c.kind x) p.1).1 in
    row-true (compacted most l c out) c.kind (length (new_lens most l c)) s.inside (shows-row s i h)
    (rw (get_d_rows (shown_at l c) c.rows i [] h) k)
