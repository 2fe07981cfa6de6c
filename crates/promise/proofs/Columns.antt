-- An appended column's rows show what they showed there. Assumes nothing.
use Rattle.bounds.specs.Refusals.{accepted}
use mathlib.Core.Path.{◌≡◌, refl, sym, ap, ◌∙◌, subst}
use mathlib.Core.Bool.{Bool, true, false}
use mathlib.Core.List.{List, [], ◌∷◌, ◌++◌, append-nil, append_assoc}
use Prim.Native.Nat.{ℕ, zero, suc, ◌+◌, ◌≤◌, ◌<◌, ◌^◌}
use native.Mathlib.Nat.{add_comm}
use native.Mathlib.Omega.{arith}
use borrow.Author.Tests.{leb-true, leb-false, ltb-false, not-false}
use lib.Dec.{leb}
use lib.ListN.{length, take, drop, get_or, length-append, length-drop, get_or-eq_default}
use lib.Seq.{take_at, drop_at, take-take, length-take-le, get_or-append-add}
use Rattle.basis.specs.Pick.{pick}
use Rattle.words.specs.Words.{enc, dec}
use Rattle.words.specs.ListLaws.{length-enc, dec-enc, word-dec}
use Rattle.bounds.specs.Bounds.{block-limit-small}
use Rattle.views.specs.View.{view_size, short_most, is_short, length_of, prefix_of, block_of, offset_of}
use Rattle.views.specs.ViewLaws.{drop-take}
use Rattle.column.specs.declared.Kind.{Kind}
use Rattle.column.specs.declared.Column.{Column}
use Rattle.column.specs.Lent.{Lent, block_at, in_data, all_in_data, fits, block_room, data_room}
use Rattle.column.proofs.FitLaws.{in-data-gives}
use Rattle.laying.specs.WrittenLaws.{flat-snoc}
use Rattle.column.specs.Meaning.{row_view, blocks_of, shown, shown_at, row_valid}
use Rattle.column.specs.Truth.{of_kind, true_at}
use Rattle.column.proofs.TruthLaws.{true_of}
use Rattle.column.specs.Laid.{rows_of, flat}
use Rattle.showing.specs.Row.{Row, row-short, row-long}
use Rattle.showing.proofs.RowsLaws.{row_any}
use Rattle.showing.specs.Stores.{rows-list, length-blocks, blocks_at_lem, block-length}
use Rattle.showing.specs.Truths.{true-row}
use Rattle.showing.proofs.ShowsLaws.{view-size}
use Rattle.showing.specs.Rooms.{both, passed, all-passed, rooms, fitting}
use Rattle.builder.specs.State.{Builder, rows_room, all_blocks, used, recorded, blocks_now, closed, complete, add_row}
use Rattle.builder.specs.Others.{lay_blocks, block_bytes, sizes, renumbered, add_column, why_column, put_column}
use Rattle.promise.specs.Calls.{Cell, cell_of}
use Rattle.promise.proofs.Fits.{block-table, data-bytes, length-recorded}
use Rattle.promise.proofs.Blocks.{done_of, now-row}
use Rattle.promise.proofs.Steps.{Inv, inv-row}
use Rattle.promise.proofs.Others.{wholes, lay-wholes, inv-whole, now-whole, done-whole, roomed-blocks}

-- ---- a view that points n blocks further on

module _ (v : List ℕ) (k : ℕ) (size : length v ≡ view_size) where
  abbrev moved : List ℕ
  moved = take 8 v ++ (enc 4 k ++ drop 12 v)

  eight : length (take 8 v) ≡ 8
  eight = length-take-le 8 v (omega arith)

  moved-size : length moved ≡ view_size
  moved-size = rw (length-append, eight, length-append, length-enc, length-drop) (omega arith)

  -- the first eight bytes stay
  moved_front : take 8 moved ≡ take 8 v
  moved_front = take_at (take 8 v) (enc 4 k ++ drop 12 v) 8 eight

  front_length_lem : (w : List ℕ) → length_of w ≡ length_of (take 8 w)
  unfolding length_of
  front_length_lem w = rw (word-dec w 0 4, word-dec (take 8 w) 0 4) (ap dec (sym (take-take 4 8 w (omega arith))))

  front-prefix : (w : List ℕ) → prefix_of w ≡ drop 4 (take 8 w)
  unfolding prefix_of
  front-prefix w = sym (drop-take 4 4 w)

  moved_length : length_of moved ≡ length_of v
  moved_length = front_length_lem moved ∙ ap length_of moved_front ∙ sym (front_length_lem v)

  moved-prefix : prefix_of moved ≡ prefix_of v
  moved-prefix = front-prefix moved ∙ ap (drop 4) moved_front ∙ sym (front-prefix v)

  moved-block : k < 2 ^ 32 → block_of moved ≡ k
  unfolding block_of
  moved-block h = rw (word-dec moved 8 4, drop_at (take 8 v) (enc 4 k ++ drop 12 v) 8 eight, take_at (enc 4 k) (drop 12 v) 4 (length-enc 4 k)) (dec-enc 4 k h)

  moved-end : drop 12 moved ≡ drop 12 v
  moved-end =
      let twelve : length (take 8 v ++ enc 4 k) ≡ 12 = rw (length-append, eight, length-enc) in
      rw (← append_assoc (take 8 v) (enc 4 k) (drop 12 v)) (drop_at (take 8 v ++ enc 4 k) (drop 12 v) 12 twelve)

  moved-offset : offset_of moved ≡ offset_of v
  unfolding offset_of
  moved-offset = rw (word-dec moved 12 4, word-dec v 12 4, moved-end)

-- a row over more blocks before its own
module _ (bs cs : List (List ℕ)) (v x : List ℕ) (n : ℕ) (e : n ≡ length bs) (small : length cs + n < 2 ^ 32) (r : Row cs v x) where
  further : (k : ℕ) → get_or (bs ++ cs) (k + n) [] ≡ get_or cs k []
  further k = rw (e, add_comm k (length bs)) (get_or-append-add bs cs k [])

  -- a long one lies in a block that is there
  block-there : short_most < length x → block_of v < length cs
  block-there h = by (leb (length cs) (block_of v)) refl
    where
      by : (t : Bool) → leb (length cs) (block_of v) ≡ t → block_of v < length cs
      by true q =
          let none : get_or cs (block_of v) [] ≡ [] = get_or-eq_default cs [] {n = block_of v} (leb-true _ _ q) in
          let k : offset_of v + length x ≤ 0 = rw none at (r.reach h) in
          absurd (omega arith)
      by false q = leb-false _ _ q

  long-moved : short_most < length x → Row (bs ++ cs) (moved v (block_of v + n) r.size) x
  unfolding shown
  long-moved h =
      let block : block_of (moved v (block_of v + n) r.size) ≡ block_of v + n = moved-block v (block_of v + n) r.size (omega (arith, block-there h)) in
      let len : length_of (moved v (block_of v + n) r.size) ≡ length_of v = moved_length v (block_of v + n) r.size in
      let offset : offset_of (moved v (block_of v + n) r.size) ≡ offset_of v = moved-offset v (block_of v + n) r.size in
      record {
        size = moved-size v (block_of v + n) r.size;
        len = len ∙ r.len;
        pre = moved-prefix v (block_of v + n) r.size ∙ r.pre;
        body = λ k. absurd (omega arith);
        val = rw (len, block, offset, row-long r h, further (block_of v)) (rw (row-long r h) at r.val);
        reach = λ k. rw (block, offset, further (block_of v)) (r.reach h);
      }

  pub row-renumbered : Row (bs ++ cs) (renumbered n v) x
  unfolding renumbered
  row-renumbered = by (is_short (length x)) refl
    where
      by : (t : Bool) → is_short (length x) ≡ t → Row (bs ++ cs) (pick (is_short (length_of v)) v (moved v (block_of v + n) r.size)) x
      by true q = rw (row-short r (leb-true _ _ q)) (row_any (leb-true _ _ q) r)
      by false q = rw (row-long r (leb-false _ _ q)) (long-moved (leb-false _ _ q))

-- ---- the call

-- what an accepted column call passed
pub record Joined (b : Builder) (l : Lent) (c : Column) : Type 0 where
  pub fitted : fits l c ≡ true
  pub true-rows : (r : ℕ) → r < c.rows → true_at b.state.kind l c r ≡ true
  pub rows : b.state.rows + c.rows ≤ rows_room b
  pub blocks : all_blocks b.state + c.blocks ≤ block_room b.lent
  pub inside : all_in_data l c.blocks ≡ true
  pub bytes : used b.state + sizes l c.blocks ≤ data_room b.lent

pub joined : (b : Builder) (l : Lent) (c : Column) → why_column l c b ≡ accepted → Joined b l c
unfolding why_column
joined b l c w =
    let p = passed _ _ _ w in
    let f = passed _ _ _ p.1 in
    let q = all-passed (true_at b.state.kind l c) c.rows _ f.1 in
    let d = passed _ _ _ q.1 in
    let u = passed _ _ _ d.1 in
    let m = roomed-blocks c.blocks (sizes l c.blocks) b u.1 in
    record {
      fitted = not-false _ f.0;
      true-rows = q.0;
      rows = ltb-false _ _ u.0;
      blocks = m.0;
      inside = not-false _ d.0;
      bytes = m.1;
    }

-- the bytes of blocks that lie in the data are as many as their records say
sizes-are : (l : Lent) (n : ℕ) → all_in_data l n ≡ true → length (flat (rows_of (block_bytes l) n)) ≡ sizes l n
unfolding all_in_data sizes rows_of flat
sizes-are l zero e = refl
sizes-are l (suc n) e =
    let p = both (all_in_data l n) (in_data l (block_at l n)) e in
    rw (
      flat-snoc (rows_of (block_bytes l) n) (block_bytes l n),
      length-append,
      sizes-are l n p.0,
      block-length l.bytes (block_at l n)
          (in-data-gives l (block_at l n).start (block_at l n).len p.1).1,
    )

row-kind : (v : List ℕ) (t : Bool) (b : Builder) → (add_row v t b).state.kind ≡ b.state.kind
unfolding add_row
row-kind v t b = refl

row-rows : (v : List ℕ) (t : Bool) (b : Builder) → (add_row v t b).state.rows ≡ suc b.state.rows
unfolding add_row
row-rows v t b = refl

-- n rows of it added
record Joins (m : ℕ) (b : Builder) (n before : ℕ) (l : Lent) (c : Column) (xs : List Cell) (bs : List (List ℕ)) (k : Kind) (start : ℕ) : Type 0 where
  inv : Inv m (add_column n before l c b) (xs ++ rows_of (cell_of l c) n)
  now : blocks_now (add_column n before l c b) ≡ bs
  kind : (add_column n before l c b).state.kind ≡ k
  rows : (add_column n before l c b).state.rows ≡ start + n

module _ {m : ℕ} (b : Builder) (xs : List Cell) (l : Lent) (c : Column) (i : Inv m b xs) (j : Joined b l c) where
  abbrev theirs : List (List ℕ)
  theirs = blocks_of l c.blocks

  abbrev base : Builder
  base = lay_blocks c.blocks (block_bytes l) (complete b)

  theirs-count : length theirs ≡ c.blocks
  theirs-count = length-blocks l c.blocks (omega (arith, (fitting l c j.fitted).blocks, (rooms c.mapped l).table))

  ours-count : length (blocks_now b) ≡ all_blocks b.state
  unfolding blocks_now
  ours-count = length-blocks (recorded b.state b.lent) (all_blocks b.state) (omega (
    arith,
    length-recorded b.state b.lent,
    i.fits.blocks,
    block-table b.lent,
  ))

  theirs-are : rows_of (block_bytes l) c.blocks ≡ theirs
  theirs-are = subst (λ (n : ℕ). rows_of (block_bytes l) n ≡ theirs) theirs-count (rows-list (block_bytes l) theirs []
      (λ k h. sym (blocks_at_lem l c.blocks k (omega (arith, theirs-count)))))

  theirs-size : length (flat theirs) ≡ sizes l c.blocks
  theirs-size = subst (λ (zs : List (List ℕ)). length (flat zs) ≡ sizes l c.blocks) theirs-are (sizes-are l c.blocks j.inside)

  block_room_lem : all_blocks b.state + length theirs ≤ block_room b.lent
  block_room_lem = omega (arith, j.blocks, theirs-count)

  byte-room : used b.state + length (flat theirs) ≤ data_room b.lent
  byte-room = omega (arith, j.bytes, theirs-size)

  few : length theirs + all_blocks b.state < 2 ^ 32
  unfolding block_room
  few = omega (arith, block_room_lem, block-limit-small)

  shows-there : (r : ℕ) → r < c.rows → Row theirs (row_view l c r) (shown_at l c r)
  unfolding shown_at
  shows-there r h = true-row l b.state.kind c.blocks (row_view l c r) (view-size l c j.fitted r h) (j.true-rows r h)

  kind-there : (r : ℕ) → r < c.rows → of_kind b.state.kind (shown_at l c r) ≡ true
  unfolding shown_at
  kind-there r h = true_of l b.state.kind c.blocks (row_view l c r) (j.true-rows r h)

  shows-here : (r : ℕ) → r < c.rows → Row (blocks_now b ++ theirs) (renumbered (all_blocks b.state) (row_view l c r)) (shown_at l c r)
  shows-here r h = row-renumbered (blocks_now b) theirs (row_view l c r) (shown_at l c r) (all_blocks b.state) (sym ours-count) few (shows-there r h)

  base-room : (zs : List (List ℕ)) → length (flat zs) ≡ length (flat theirs) → (complete b).state.base + length (flat zs) ≤ length (complete b).lent.bytes
  unfolding complete closed recorded
  base-room zs e = omega (arith, e, byte-room, data-bytes b.lent)

  base-is : base ≡ wholes theirs (complete b)
  base-is =
      subst (λ (zs : List (List ℕ)). base ≡ wholes zs (complete b)) theirs-are
      (lay-wholes c.blocks (block_bytes l) (complete b) (base-room (rows_of (block_bytes l) c.blocks)
      (ap (λ (zs : List (List ℕ)). length (flat zs)) theirs-are)))

  base-kind : base.state.kind ≡ b.state.kind
  unfolding wholes complete closed
  base-kind = rw base-is

  base-rows : base.state.rows ≡ b.state.rows
  unfolding wholes complete closed
  base-rows = rw base-is

  joins : (n : ℕ) → n ≤ c.rows → Joins m base n (all_blocks b.state) l c xs (blocks_now b ++ theirs) b.state.kind b.state.rows
  unfolding add_column rows_of
  joins zero h =
      record {
        inv = subst (λ (ys : List Cell). Inv m base ys) (sym (append-nil xs)) (subst (λ (e : Builder). Inv m e xs) (sym base-is)
            (inv-whole b xs theirs i block_room_lem byte-room));
        now = ap blocks_now base-is ∙ now-whole b xs theirs i block_room_lem byte-room;
        kind = base-kind;
        rows = omega (arith, base-rows);
      }
  joins (suc n) h =
      let p = joins n (omega arith) in
      let d : Builder = add_column n (all_blocks b.state) l c base in
      let v : List ℕ = renumbered (all_blocks b.state) (row_view l c n) in
      let one : Inv m (add_row v (row_valid l c n) d) ((xs ++ rows_of (cell_of l c) n) ++ cell_of l c n ∷ []) =
      inv-row d (xs ++ rows_of (cell_of l c) n) v (cell_of l c n) p.inv (rw p.now (shows-here n (omega arith))) (rw p.kind (kind-there n (omega arith)))
      (omega (arith, p.rows, p.inv.room, i.room, j.rows)) in
      record {
        inv = subst (λ (ys : List Cell). Inv m (add_row v (row_valid l c n) d) ys) (append_assoc xs (rows_of (cell_of l c) n) (cell_of l c n ∷ [])) one;
        now = now-row v (row_valid l c n) d ∙ p.now;
        kind = row-kind v (row_valid l c n) d ∙ p.kind;
        rows = row-rows v (row_valid l c n) d ∙ omega (arith, p.rows);
      }

  pub inv-column : Inv m (put_column l c b) (xs ++ rows_of (cell_of l c) c.rows)
  unfolding put_column
  inv-column = (joins c.rows (omega arith)).inv

  -- its blocks come after all that there were
  done-rows : (n : ℕ) → done_of (add_column n (all_blocks b.state) l c base) ≡ done_of base
  unfolding add_column add_row blocks_of
  done-rows zero = refl
  done-rows (suc n) = done-rows n

  pub done-column : done_of (put_column l c b) ≡ blocks_now b ++ theirs
  unfolding put_column
  done-column = done-rows c.rows ∙ ap done_of base-is ∙ done-whole b xs theirs i block_room_lem byte-room
