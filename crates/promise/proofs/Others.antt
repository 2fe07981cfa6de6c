-- Each accepted block, view or finish-by-copy call keeps what the rows show, and a view's row shows the named part. Assumes nothing.
use Rattle.bounds.specs.Refusals.{accepted}
use mathlib.Core.Path.{◌≡◌, refl, sym, ap, ◌∙◌, subst}
use mathlib.Core.Bool.{Bool, true, false}
use mathlib.Core.List.{List, [], ◌∷◌, ◌++◌, append-nil, append_assoc}
use Prim.Native.Nat.{ℕ, zero, suc, ◌+◌, ◌≤◌, ◌<◌}
use native.Mathlib.Nat.{add-zero}
use native.Mathlib.Omega.{arith}
use borrow.Author.Tests.{leb-true, leb-false, ltb-false, not-false}
use lib.ListN.{length, take, drop, get_or, set, length-append, length-drop, get_or-append}
use lib.Seq.{paste, paste-zero, take-paste, drop-paste, take-length, drop-drop, length-paste, length-take-le, get_or-set_other, set-set}
use Rattle.basis.specs.Pick.{pick}
use Rattle.bounds.specs.Bounds.{block-limit-small, byte-limit-small}
use Rattle.views.specs.View.{is_short, make_view}
use Rattle.views.specs.ViewLaws.{make-short, make-long}
use Rattle.column.specs.declared.Block.{Block}
use Rattle.column.specs.Lent.{Lent, buffers, block, block_at, in_data, row_room, block_room, data_room}
use Rattle.column.specs.Meaning.{bytes_of, part}
use Rattle.column.specs.Truth.{of_kind}
use Rattle.column.specs.Laid.{rows_of, flat, put_table}
use Rattle.laying.specs.WrittenLaws.{flat-snoc}
use Rattle.showing.specs.Row as row
use Rattle.showing.specs.Row.{Row, short_row, long-row}
use Rattle.showing.proofs.RowsLaws.{rows_ext, ext-add}
use Rattle.showing.specs.Stores.{length-blocks, blocks_at_lem, block-length}
use Rattle.showing.specs.LaidLaws.{length-put-table, blocks-put, table-ends}
use Rattle.showing.specs.Rooms.{both, passed}
use Rattle.builder.specs.declared.State.{State}
use Rattle.builder.specs.State.{Builder, builder, moved, rows_room, is_open, all_blocks, used, recorded, blocks_now, closed, complete}
use Rattle.builder.specs.Others.{lay_block, lay_blocks, why_room, why_block, put_block, viewed, why_view, put_view}
use Rattle.builder.specs.Finish.{copied}
use Rattle.promise.specs.Calls.{Cell, cell}
use Rattle.promise.proofs.Fits.{Fits, block-table, data-bytes, length-recorded}
use Rattle.promise.proofs.Blocks.{Below, done_of, open_of, opened, blocks-le, now-are, below-complete}
use Rattle.promise.proofs.Steps.{Inv, inv-row}

-- ---- finish by copy: the open block's record is written where it will be

recorded-twice : (s : State) (l : Lent) → recorded s (recorded s l) ≡ recorded s l
unfolding recorded
recorded-twice s l = by (is_open s)
  where
    by : (t : Bool)
        → buffers l.views l.bytes (pick t (set (pick t (set l.table s.blocks (block s.base s.fill)) l.table) s.blocks
        (block s.base s.fill)) (pick t (set l.table s.blocks (block s.base s.fill)) l.table)) l.nulls
        ≡ buffers l.views l.bytes (pick t (set l.table s.blocks (block s.base s.fill)) l.table) l.nulls
    by true = rw (set-set l.table s.blocks (block s.base s.fill) (block s.base s.fill))
    by false = refl

now-copied : (b : Builder) → blocks_now (copied b) ≡ blocks_now b
unfolding blocks_now copied
now-copied b = rw (recorded-twice b.state b.lent)

below-copied : (b : Builder) → Below b → Below (copied b)
unfolding copied recorded
below-copied b below = by (is_open b.state)
  where
    t : List Block
    t = b.lent.table

    new : Block
    new = block b.state.base b.state.fill

    by : (o : Bool) → (k : ℕ) → k < b.state.blocks
        → (get_or (pick o (set t b.state.blocks new) t) k (block 0 0)).start + (get_or (pick o (set t b.state.blocks new) t) k (block 0 0)).len
        ≤ b.state.base
    by true k h =
        let other : get_or (set t b.state.blocks new) k (block 0 0) ≡ get_or t k (block 0 0) = get_or-set_other t b.state.blocks k new (block 0 0)
        (λ e. omega arith) in
        rw other (below k h)
    by false k h = below k h

same_rows : (b : Builder) → rows_room (copied b) ≡ rows_room b
unfolding copied recorded rows_room row_room
same_rows b = refl

same_blocks : (b : Builder) → block_room (copied b).lent ≡ block_room b.lent
unfolding copied block_room
same_blocks b = rw (length-recorded b.state b.lent)

pub inv-copy : {m : ℕ} (b : Builder) (xs : List Cell) → Inv m b xs → Inv m (copied b) xs
unfolding copied recorded data_room
inv-copy b xs i =
    record {
      shows = rw (now-copied b) i.shows;
      bits = i.bits;
      nulled = i.nulled;
      kinds = i.kinds;
      below = below-copied b i.below;
      fits = record {
        rows = omega (arith, i.fits.rows, same_rows b);
        blocks = omega (arith, i.fits.blocks, same_blocks b);
        bytes =
            i.fits.bytes;
        growth = i.fits.growth;
      };
      room = same_rows b ∙ i.room;
    }

-- ---- blocks laid whole, after the open one is completed

unfoldable pub wholes : List (List ℕ) → Builder → Builder
wholes xs b =
    let s = b.state in
    let l = b.lent in
    builder
    (moved s s.growth s.rows (s.blocks + length xs) (s.base + length (flat xs)) s.fill s.cap s.nulled)
    (buffers l.views (paste l.bytes s.base (flat xs) (length (flat xs))) (put_table l.table s.blocks s.base xs) l.nulls)
    b.places

pub one-whole : (x : List ℕ) (b : Builder) → lay_block x b ≡ wholes (x ∷ []) b
unfolding lay_block wholes flat put_table
one-whole x b =
    let s = b.state in
    let l = b.lent in
    let e : suc s.blocks ≡ s.blocks + 1 = omega arith in
    let q : x ≡ x ++ [] = sym (append-nil x) in
    λ i. builder (moved s s.growth s.rows (e i) (s.base + length (q i)) s.fill s.cap s.nulled)
    (buffers l.views (paste l.bytes s.base (q i) (length (q i))) (set l.table s.blocks (block s.base (length x))) l.nulls) b.places

table-snoc : (t : List Block) (k at : ℕ) (xs : List (List ℕ)) (x : List ℕ)
    → put_table t k at (xs ++ x ∷ []) ≡ set (put_table t k at xs) (k + length xs) (block (at + length (flat xs)) (length x))
unfolding put_table flat
table-snoc t k at [] x = sym (λ i. set t (add-zero k i) (block (add-zero at i) (length x)))
table-snoc t k at (y ∷ xs) x =
    let e : suc k + length xs ≡ k + suc (length xs) = omega arith in
    let f : at + length y + length (flat xs) ≡ at + length (y ++ flat xs) = rw length-append (omega arith) in
    table-snoc (set t k (block at (length y))) (suc k) (at + length y) xs x
    ∙ (λ i. set (put_table (set t k (block at (length y))) (suc k) (at + length y) xs) (e i) (block (f i) (length x)))

paste-snoc : (d : List ℕ) (at : ℕ) (x y : List ℕ) → at + length x + length y ≤ length d
    → paste (paste d at x (length x)) (at + length x) y (length y) ≡ paste d at (x ++ y) (length (x ++ y))
paste-snoc d at x y h =
    let front : take (at + length x) (paste d at x (length x)) ≡ take at d ++ x = take-paste d at x (length x) (omega arith) (omega arith)
    ∙ ap (λ (z : List ℕ). take at d ++ z) (take-length x) in
    let n : at + length x + length y ≡ at + length (x ++ y) = rw length-append (omega arith) in
    let back : drop (at + length x + length y) (paste d at x (length x)) ≡ drop (at + length (x ++ y)) d =
    sym (drop-drop (length y) (at + length x) (paste d at x (length x))) ∙ ap (drop (length y)) (drop-paste d at x (length x) (omega arith) (omega arith))
    ∙ drop-drop (length y) (at + length x) d ∙ ap (λ (k : ℕ). drop k d) n in
    let mid : take at d ++ x ++ y ≡ take at d ++ take (length (x ++ y)) (x ++ y) = append_assoc (take at d) x y ∙ ap (λ (z : List ℕ). take at d ++ z)
    (sym (take-length (x ++ y))) in
    (λ i. front i ++ take-length y i ++ back i) ∙ ap (λ (z : List ℕ). z ++ drop (at + length (x ++ y)) d) mid

snoc-whole : (xs : List (List ℕ)) (x : List ℕ) (b : Builder) → b.state.base + length (flat xs) + length x ≤ length b.lent.bytes
    → lay_block x (wholes xs b) ≡ wholes (xs ++ x ∷ []) b
unfolding lay_block wholes
snoc-whole xs x b h =
    let s = b.state in
    let l = b.lent in
    let count : suc (s.blocks + length xs) ≡ s.blocks + length (xs ++ x ∷ []) = rw length-append (omega arith) in
    let size : s.base + length (flat xs) + length x ≡ s.base + length (flat (xs ++ x ∷ [])) = rw (flat-snoc xs x, length-append) (omega arith) in
    let data' : paste (paste l.bytes s.base (flat xs) (length (flat xs))) (s.base + length (flat xs)) x (length x)
    ≡ paste l.bytes s.base (flat (xs ++ x ∷ [])) (length (flat (xs ++ x ∷ []))) = rw (flat-snoc xs x) (paste-snoc l.bytes s.base (flat xs) x h) in
    let table' = sym (table-snoc l.table s.blocks s.base xs x) in
    λ i. builder (moved s s.growth s.rows (count i) (size i) s.fill s.cap s.nulled) (buffers l.views (data' i) (table' i)
    l.nulls) b.places

no_whole : (b : Builder) → b ≡ wholes [] b
unfolding wholes flat put_table
no_whole b =
    let s = b.state in
    let l = b.lent in
    let e : s.blocks ≡ s.blocks + 0 = sym (add-zero s.blocks) in
    let a : s.base ≡ s.base + 0 = sym (add-zero s.base) in
    λ i. builder (moved s s.growth s.rows (e i) (a i) s.fill s.cap s.nulled)
    (buffers l.views (paste-zero l.bytes s.base [] i) l.table l.nulls) b.places

-- blocks laid each after the other are laid whole
pub lay-wholes : (n : ℕ) (f : ℕ → List ℕ) (b : Builder) → b.state.base + length (flat (rows_of f n)) ≤ length b.lent.bytes → lay_blocks n f b
    ≡ wholes (rows_of f n) b
unfolding lay_blocks rows_of
lay-wholes zero f b h = no_whole b
lay-wholes (suc n) f b h =
    let size : length (flat (rows_of f n ++ f n ∷ [])) ≡ length (flat (rows_of f n)) + length (f n) = rw (flat-snoc (rows_of f n) (f n))
    (length-append (flat (rows_of f n)) (f n)) in
    ap (lay_block (f n)) (lay-wholes n f b (omega arith)) ∙ snoc-whole (rows_of f n) (f n) b (omega arith)

module _ {m : ℕ} (b : Builder) (xs : List Cell) (ys : List (List ℕ)) (i : Inv m b xs)
    (blocks-room : all_blocks b.state + length ys ≤ block_room b.lent) (bytes-room : used b.state + length (flat ys) ≤ data_room b.lent) where
  abbrev whole : Builder
  whole = wholes ys (complete b)

  table-room : all_blocks b.state + length ys ≤ length (recorded b.state b.lent).table
  table-room = omega (arith, length-recorded b.state b.lent, block-table b.lent)

  data-room : used b.state + length (flat ys) ≤ length b.lent.bytes
  data-room = omega (arith, data-bytes b.lent)

  ends : (j : ℕ) → j < all_blocks b.state → (block_at (recorded b.state b.lent) j).start + (block_at (recorded b.state b.lent) j).len ≤ used
      b.state
  unfolding complete closed
  ends = below-complete b (omega (arith, i.fits.blocks, block-table b.lent)) i.below

  all_whole : all_blocks whole.state ≡ all_blocks b.state + length ys
  unfolding wholes complete closed all_blocks
  all_whole = refl

  pub now-whole : blocks_now whole ≡ blocks_now b ++ ys
  unfolding blocks_now wholes complete closed recorded all_blocks
  now-whole = blocks-put (recorded b.state b.lent) (all_blocks b.state) (used b.state) ys b.lent.views b.lent.nulls table-room ends data-room

  -- none is open
  pub done-whole : done_of whole ≡ blocks_now b ++ ys
  unfolding blocks_now wholes complete closed recorded all_blocks
  done-whole = now-whole

  below-whole : Below whole
  unfolding wholes complete closed
  below-whole k h = table-ends (recorded b.state b.lent).table (all_blocks b.state) (used b.state) ys table-room ends k h

  rows_whole : rows_room whole ≡ rows_room b
  unfolding wholes complete closed recorded rows_room row_room
  rows_whole = refl

  fits_whole : Fits whole
  unfolding wholes complete closed recorded all_blocks block_room data_room
  fits_whole =
      record {
        rows = omega (arith, i.fits.rows, rows_whole);
        blocks = omega (
          arith,
          blocks-room,
          length-put-table (recorded b.state b.lent).table (all_blocks b.state) (used b.state) ys,
          length-recorded b.state b.lent,
        );
        bytes = omega (arith, bytes-room, length-paste b.lent.bytes (used b.state) (flat ys) (length (flat ys)) data-room (omega arith));
        growth = i.fits.growth;
      }

  pub inv-whole : Inv m whole xs
  unfolding wholes complete closed recorded
  inv-whole =
      record {
        shows = rw now-whole (rows_ext (ext-add (blocks_now b) ys) i.shows);
        bits = i.bits;
        nulled = i.nulled;
        kinds = i.kinds;
        below = below-whole;
        fits = fits_whole;
        room = rows_whole ∙ i.room;
      }

pub roomed-blocks : (n bytes : ℕ) (b : Builder) → why_room b.state (block_room b.lent) (data_room b.lent) n bytes ≡ accepted
    → (all_blocks b.state + n ≤ block_room b.lent) × (used b.state + bytes ≤ data_room b.lent)
unfolding why_room
roomed-blocks n bytes b w =
    let p = passed _ _ _ w in
    let q = passed _ _ _ p.1 in
    (ltb-false _ _ p.0, ltb-false _ _ q.0)

pub one-flat : (x : List ℕ) → length (flat (x ∷ [])) ≡ length x
unfolding flat
one-flat x = rw (append-nil x)

pub inv-block : {m : ℕ} (b : Builder) (xs : List Cell) (x : List ℕ) → Inv m b xs → why_block b x ≡ accepted → Inv m (put_block x b) xs
unfolding why_block put_block
inv-block {m} b xs x i w =
    let p = roomed-blocks 1 (length x) b (passed _ _ _ (passed _ _ _ w).1).1 in
    subst (λ (e : Builder). Inv m e xs) (sym (one-whole x (complete b))) (inv-whole b xs (x ∷ []) i p.0 (omega (arith, p.1, one-flat x)))

-- ---- a view of a completed block

-- what an accepted view call passed
pub record Ranged (b : Builder) (k offset n : ℕ) : Type 0 where
  pub block : k < b.state.blocks
  pub end : offset + n ≤ (block_at b.lent k).len
  pub kind : of_kind b.state.kind (viewed b k offset n) ≡ true
  pub room : b.state.rows < rows_room b

pub ranged : (b : Builder) (k offset n : ℕ) → why_view b k offset n ≡ accepted → Ranged b k offset n
unfolding why_view
ranged b k offset n w =
    let p = passed _ _ _ (passed _ _ _ w).1 in
    let q = passed _ _ _ p.1 in
    let inside = both (in_data b.lent (block_at b.lent k)) _ (not-false _ q.0) in
    let r = passed _ _ _ q.1 in
    let u = passed _ _ _ r.1 in
    record { block = leb-false _ _ p.0; end = leb-true _ _ inside.1; kind = not-false _ r.0; room = leb-false _ _ u.0 }

module _ {m : ℕ} (b : Builder) (xs : List Cell) (k offset n : ℕ) (i : Inv m b xs) (g : Ranged b k offset n) where
  table-enough : all_blocks b.state ≤ length b.lent.table
  table-enough = omega (arith, i.fits.blocks, block-table b.lent)

  block-is : get_or (done_of b) k [] ≡ bytes_of b.lent.bytes (block_at b.lent k)
  block-is = blocks_at_lem b.lent b.state.blocks k g.block

  -- the block is the same among all blocks, the open one included
  block-now : get_or (blocks_now b) k [] ≡ get_or (done_of b) k []
  block-now =
      let long : length (done_of b) ≡ b.state.blocks = length-blocks b.lent b.state.blocks (omega (arith, table-enough, blocks-le b.state)) in
      rw (now-are b table-enough) (get_or-append (done_of b) (opened (is_open b.state) (open_of b)) [] k (omega (arith, g.block)))

  block-long : length (get_or (done_of b) k []) ≡ (block_at b.lent k).len
  block-long =
      rw block-is (block-length b.lent.bytes (block_at b.lent k) (omega (arith, i.below k g.block, i.fits.bytes, data-bytes b.lent)))

  view-long : length (viewed b k offset n) ≡ n
  unfolding viewed
  view-long = length-take-le n (drop offset (get_or (done_of b) k [])) (rw (length-drop, block-long) (omega (arith, g.end)))

  numbers : row.Fits (viewed b k offset n) k offset
  unfolding block_room data_room
  numbers =
      record {
        len = omega (arith, view-long, g.end, i.below k g.block, i.fits.bytes, byte-limit-small);
        block = omega (arith, g.block, blocks-le b.state, i.fits.blocks, block-limit-small);
        offset = omega (arith, g.end, i.below k g.block, i.fits.bytes, byte-limit-small);
      }

  same-part : part (blocks_now b) k offset (length (viewed b k offset n)) ≡ viewed b k offset n
  unfolding viewed
  same-part = rw (view-long, block-now)

  view-row : Row (blocks_now b) (make_view (viewed b k offset n) k offset) (viewed b k offset n)
  view-row = by (is_short (length (viewed b k offset n))) refl
    where
      by : (t : Bool) → is_short (length (viewed b k offset n)) ≡ t → Row (blocks_now b) (make_view (viewed b k offset n) k offset) (viewed b k offset n)
      by true e = rw (make-short (viewed b k offset n) k offset (leb-true _ _ e)) (short_row (blocks_now b) (viewed b k offset n) (leb-true _ _ e))
      by false e =
          rw (make-long (viewed b k offset n) k offset (leb-false _ _ e))
          (long-row (blocks_now b) (viewed b k offset n) k offset (leb-false _ _ e) numbers (rw (block-now, block-long, view-long) g.end) same-part)

  pub inv-view : Inv m (put_view k offset n b) (xs ++ cell (viewed b k offset n) true ∷ [])
  unfolding put_view
  inv-view = inv-row b xs (make_view (viewed b k offset n) k offset) (cell (viewed b k offset n) true) i view-row g.kind g.room
