-- Each accepted value or null call adds rows that show what it appends, over a merge table of any content. Assumes nothing.
use Rattle.bounds.specs.Refusals.{accepted}
use mathlib.Core.Path.{◌≡◌, refl, sym, ap, ◌∙◌, subst}
use mathlib.Core.Bool.{Bool, true, false, not, ◌&&◌}
use mathlib.Core.List.{List, [], ◌∷◌, ◌++◌, map, map-append, append-nil, append_assoc}
use Prim.Native.Nat.{ℕ, zero, suc, ◌+◌, ◌-◌, ◌≤◌, ◌<◌, ◌%◌}
use native.Mathlib.Omega.{arith}
use borrow.Author.Tests.{leb-true, leb-false, ltb-false, not-false, ne_eqb}
use lib.Dec.{leb}
use lib.ListN.{length, get_or, replicate, length-map, length-append}
use lib.Seq.{get_or_at}
use Rattle.basis.specs.Pick.{pick}
use Rattle.hash.specs.Hash.{hash_of}
use Rattle.utf8.specs.Table.{bad_after, first_bad, well_formed}
use Rattle.views.specs.View.{short_most, is_short, short_view, zero_view, view_at}
use Rattle.views.specs.ViewLaws.{zero-view}
use Rattle.merging.specs.declared.Found.{Found}
use Rattle.merging.specs.declared.Found.TheVariants.{Row, Free, Full}
use Rattle.merging.specs.Table.{search_from, is_row, row_of}
use Rattle.merging.proofs.Search.{seek-row}
use Rattle.column.specs.declared.Kind.{Kind}
use Rattle.column.specs.declared.Kind.TheVariants.{Binary, Text}
use Rattle.column.specs.Lent.{block_room, data_room}
use Rattle.column.specs.Truth.{of_kind}
use Rattle.showing.specs.Row as row
use Rattle.showing.specs.Row.{short_row}
use Rattle.showing.specs.Rooms.{both, passed}
use Rattle.builder.specs.State.{Builder, rows_room, is_open, all_blocks, used, blocks_now, fits_open, closed, complete, sized, make_room, lay, add_row, add_rows}
use Rattle.builder.specs.Values.{merges, hits, found_by, found, why_lay, why_store, why_rows, why_values, enter, store, put_found, put_value, put_values, why_null, put_null}
use Rattle.builder.proofs.CallLaws.{put-many}
use Rattle.promise.specs.Calls.{Cell, cell, no_value, bytes_in}
use Rattle.promise.proofs.Fits.{Fits, grow, room-is, rooms-enter, sizes-complete, sizes-grow}
use Rattle.promise.proofs.Blocks.{now-row}
use Rattle.promise.proofs.Steps.{Inv, row-of, inv-row, inv-complete, inv-grow, inv-enter, inv-store}
use Rattle.promise.proofs.Gets.{rows_are, hit-row}

-- ---- room for a long value

pub record Roomy (b c : Builder) (n : ℕ) : Type 0 where
  pub rows : c.state.rows ≡ b.state.rows
  pub rows_room : rows_room c ≡ rows_room b
  pub block : c.state.blocks < block_room c.lent
  pub bytes : used c.state + n ≤ data_room c.lent

opened-all : (b : Builder) → is_open b.state ≡ true → all_blocks b.state ≡ suc b.state.blocks
unfolding all_blocks
opened-all b e = rw e

fits-open : (b : Builder) (n : ℕ) → fits_open b.state n ≡ true → is_open b.state ≡ true
unfolding fits_open
fits-open b n e = (both (is_open b.state) _ e).0

closing : (n : ℕ) (b : Builder) → all_blocks b.state < block_room b.lent → used b.state + n ≤ data_room b.lent → Roomy b (grow n (complete b)) n
unfolding grow sized complete closed
closing n b h k =
    let s = sizes-complete b in
    let t = sizes-grow n (complete b) in
    record {
      rows = refl;
      rows_room = t.rows ∙ s.rows;
      block = omega (arith, s.blocks, t.blocks);
      bytes = omega (arith, s.bytes, t.bytes);
    }

-- there is room for n bytes more
abbrev pub Takes : Builder → ℕ → Type 0
Takes b n = why_lay b.state (block_room b.lent) (data_room b.lent) n ≡ accepted

pub roomy : (n : ℕ) (b : Builder) → Fits b → Takes b n → Roomy b (make_room n b) n
unfolding why_lay
roomy n b f w =
    let p = passed _ _ _ w in
    let q = passed _ _ _ p.1 in
    subst (λ (c : Builder). Roomy b c n) (sym (room-is n b)) (by (fits_open b.state n) refl p.0 (ltb-false _ _ q.0))
  where
    all-open : is_open b.state ≡ true → all_blocks b.state ≡ suc b.state.blocks
    all-open e = opened-all b e

    by : (t : Bool) → fits_open b.state n ≡ t → not t && leb (block_room b.lent) (all_blocks b.state) ≡ false → used b.state + n ≤ data_room b.lent
        → Roomy b (pick t b (grow n (complete b))) n
    by true e h k =
        record { rows = refl; rows_room = refl; block = omega (arith, f.blocks, all-open (fits-open b n e)); bytes = k }
    by false e h k = closing n b (leb-false _ _ h) k

pub inv-roomy : {m : ℕ} (n : ℕ) (b : Builder) (xs : List Cell) → Inv m b xs → Inv m (make_room n b) xs
inv-roomy {m} n b xs i = subst (λ (c : Builder). Inv m c xs) (sym (room-is n b)) (by (fits_open b.state n))
  where
    by : (t : Bool) → Inv m (pick t b (grow n (complete b))) xs
    by true = i
    by false = inv-grow n (complete b) xs (inv-complete b xs i)

grown-kind : (n : ℕ) (b : Builder) → (grow n (complete b)).state.kind ≡ b.state.kind
unfolding grow sized complete closed
grown-kind n b = refl

same_kind : (n : ℕ) (b : Builder) → (make_room n b).state.kind ≡ b.state.kind
same_kind n b = ap (λ (c : Builder). c.state.kind) (room-is n b) ∙ by (fits_open b.state n)
  where
    by : (t : Bool) → (pick t b (grow n (complete b))).state.kind ≡ b.state.kind
    by true = refl
    by false = grown-kind n b

-- a long value stored
pub inv-long : {m : ℕ} (b : Builder) (xs : List Cell) (x : List ℕ) → Inv m b xs → of_kind b.state.kind x ≡ true → short_most < length x
    → b.state.rows < rows_room b
    → Takes b (length x) → Inv m (store x (make_room (length x) b)) (xs ++ cell x true ∷ [])
inv-long b xs x i o long h w =
    let r = roomy (length x) b i.fits w in
    inv-store (make_room (length x) b) xs x (inv-roomy (length x) b xs i) long r.block r.bytes (rw (same_kind (length x) b) o)
    (omega (arith, r.rows, r.rows_room))

-- ---- a row that merging finds

pub found-hits : (b : Builder) (x : List ℕ) (r : ℕ) → found b x ≡ Row r → hits b x r ≡ true
unfolding found found_by search_from
found-hits b x r e = by (merges b.state.merging (length x)) e
  where
    by : (t : Bool) → pick t (search_from b.places (hits b x) (hash_of x)) Full ≡ Row r → hits b x r ≡ true
    by true e = (seek-row b.places (hits b x) (hash_of x % length b.places) (length b.places) r e).0
    by false e = let z : ◌≡◌ {A = ℕ} 0 1 = cc in absurd (omega arith)

-- ---- the calls

-- one value, whatever the merge table answers
module _ {m : ℕ} (b : Builder) (xs : List Cell) (x : List ℕ) (i : Inv m b xs) (o : of_kind b.state.kind x ≡ true) (h : b.state.rows < rows_room b) where
  inv-laid : (f : Found) → short_most < length x → Takes b (length x) → Inv m (store x (make_room (length x) (enter f b))) (xs ++ cell x true ∷ [])
  inv-laid f long w = inv-long (enter f b) xs x (inv-enter f b xs i) o long (rw (rooms-enter f b) h) w

  inv-found : (f : Found) → found b x ≡ f → short_most < length x
      → pick (is_row f) accepted (why_lay b.state (block_room b.lent) (data_room b.lent) (length x)) ≡ accepted
      → Inv m (put_found f x b) (xs ++ cell x true ∷ [])
  unfolding put_found
  inv-found (Row r) e long w = inv-row b xs (view_at b.lent.views r) (cell x true) i (hit-row b xs i x r (found-hits b x r e)).1 o h
  inv-found (Free p) e long w = inv-laid (Free p) long w
  inv-found Full e long w = inv-laid Full long w

  pub inv-value : why_store b x ≡ accepted → Inv m (put_value x b) (xs ++ cell x true ∷ [])
  unfolding why_store put_value
  inv-value w = by (is_short (length x)) refl w
    where
      by : (t : Bool) → is_short (length x) ≡ t
          → pick t accepted (pick (is_row (found b x)) accepted (why_lay b.state (block_room b.lent) (data_room b.lent) (length x))) ≡ accepted
          → Inv m (pick t (add_row (short_view x) true b) (put_found (found b x) x b)) (xs ++ cell x true ∷ [])
      by true e w = inv-row b xs (short_view x) (cell x true) i (short_row (blocks_now b) x (leb-true _ _ e)) o h
      by false e w = inv-found (found b x) refl (leb-false _ _ e) w

-- ---- the value again and again

replicate-snoc : {A : Type 0} (n : ℕ) (a : A) → a ∷ replicate n a ≡ replicate n a ++ a ∷ []
replicate-snoc zero a = refl
replicate-snoc (suc n) a = ap (λ (r : List _). a ∷ r) (replicate-snoc n a)

rows-added : (n : ℕ) (v : List ℕ) (b : Builder) → (add_rows n v true b).state.rows ≡ b.state.rows + n
unfolding add_rows add_row
rows-added zero v b = omega arith
rows-added (suc n) v b = rw (rows-added n v b) (omega arith)

kind-added : (n : ℕ) (v : List ℕ) (b : Builder) → (add_rows n v true b).state.kind ≡ b.state.kind
unfolding add_rows add_row
kind-added zero v b = refl
kind-added (suc n) v b = kind-added n v b

-- n copies of a row, over the same blocks
pub inv-copies : {m : ℕ} (n : ℕ) (b : Builder) (xs : List Cell) (v x : List ℕ) → Inv m b xs → row.Row (blocks_now b) v x → of_kind b.state.kind x
    ≡ true → b.state.rows + n ≤ m
    → Inv m (add_rows n v true b) (xs ++ replicate n (cell x true)) × (blocks_now (add_rows n v true b) ≡ blocks_now b)
unfolding add_rows
inv-copies {m} zero b xs v x i r o h = (subst (λ (ys : List Cell). Inv m b ys) (sym (append-nil xs)) i, refl)
inv-copies {m} (suc n) b xs v x i r o h =
    let before = inv-copies n b xs v x i r o (omega arith) in
    let c : Builder = add_rows n v true b in
    let one : Inv m (add_row v true c) ((xs ++ replicate n (cell x true)) ++ cell x true ∷ []) =
    inv-row c (xs ++ replicate n (cell x true)) v (cell x true) before.0 (rw before.1 r) (rw (kind-added n v b) o)
    (omega (arith, rows-added n v b, before.0.room)) in
    let list : (xs ++ replicate n (cell x true)) ++ cell x true ∷ [] ≡ xs ++ replicate (suc n) (cell x true) =
    append_assoc xs (replicate n (cell x true)) (cell x true ∷ []) ∙ ap (λ (ys : List Cell). xs ++ ys) (sym (replicate-snoc n (cell x true))) in
    (subst (λ (ys : List Cell). Inv m (add_row v true c) ys) list one, now-row v true c ∙ before.1)

-- the last row shows the last cell
last_row : {m : ℕ} (b : Builder) (xs : List Cell) (x : List ℕ) (n : ℕ) → n ≡ length xs → Inv m b (xs ++ cell x true ∷ [])
    → row.Row (blocks_now b) (view_at b.lent.views n) x
last_row b xs x n e i =
    let k : b.state.rows ≡ length xs + 1 = rows_are b (xs ++ cell x true ∷ []) i ∙ length-append xs (cell x true ∷ []) in
    let shows : get_or (map bytes_in (xs ++ cell x true ∷ [])) n [] ≡ x =
    rw (map-append bytes_in xs (cell x true ∷ [])) (get_or_at (map bytes_in xs) x [] [] n (length-map xs bytes_in ∙ sym e)) in
    rw shows at (row-of b (xs ++ cell x true ∷ []) i n (omega arith))

-- what an accepted value call passed
pub record Valued (n : ℕ) (b : Builder) (x : List ℕ) : Type 0 where
  pub kind : of_kind b.state.kind x ≡ true
  pub room : b.state.rows + suc n ≤ rows_room b
  pub stores : why_store b x ≡ accepted

pub valued : (n : ℕ) (b : Builder) (x : List ℕ) → why_values (suc n) b x ≡ accepted → Valued n b x
unfolding why_values why_rows
valued n b x w =
    let p = passed _ _ _ (rw (ne_eqb (suc n) 0 (λ e. omega arith)) at (passed _ _ _ w).1) in
    let q = passed _ _ _ p.1 in
    let r = passed _ _ _ q.1 in
    record { kind = not-false _ q.0; room = ltb-false _ _ r.0; stores = r.1 }

pub put-suc : (n : ℕ) (x : List ℕ) (b : Builder) → put_values (suc n) x b ≡ add_rows n (view_at (put_value x b).lent.views b.state.rows) true (put_value x b)
put-suc n x b =
    let e : suc n - 1 ≡ n = omega arith in
    sym (put-many (suc n) x b (λ z. omega arith)) ∙ ap (λ (k : ℕ). add_rows k (view_at (put_value x b).lent.views b.state.rows) true (put_value x b)) e

pub put-zero : (x : List ℕ) (b : Builder) → put_values zero x b ≡ b
unfolding put_values
put-zero x b = refl

put-kind : (x : List ℕ) (b : Builder) → (put_value x b).state.kind ≡ b.state.kind
unfolding put_value put_found store lay add_row
put-kind x b = by (is_short (length x)) (is_row (found b x))
  where
    by : (t u : Bool)
        → (pick t (add_row (short_view x) true b) (pick u (add_row (view_at b.lent.views (row_of (found b x))) true b)
        (store x (make_room (length x) (enter (found b x) b))))).state.kind ≡ b.state.kind
    by true u = refl
    by false true = refl
    by false false = same_kind (length x) (enter (found b x) b)

pub inv-values : {m : ℕ} (n : ℕ) (b : Builder) (xs : List Cell) (x : List ℕ) → Inv m b xs → why_values n b x ≡ accepted
    → Inv m (put_values n x b) (xs ++ replicate n (cell x true))
inv-values {m} zero b xs x i w = rw (put-zero x b, append-nil xs) i
inv-values {m} (suc n) b xs x i w =
    let p : Valued n b x = valued n b x w in
    let one : Inv m (put_value x b) (xs ++ cell x true ∷ []) = inv-value b xs x i p.kind (omega (arith, p.room)) p.stores in
    let e : b.state.rows ≡ length xs = rows_are b xs i in
    let k : (put_value x b).state.rows ≡ length xs + 1 = rows_are (put_value x b) (xs ++ cell x true ∷ []) one ∙ length-append xs (cell x true ∷ []) in
    let v : List ℕ = view_at (put_value x b).lent.views b.state.rows in
    let all =
    inv-copies n (put_value x b) (xs ++ cell x true ∷ []) v x one (last_row (put_value x b) xs x b.state.rows e one) (rw (put-kind x b) p.kind)
    (omega (arith, i.room, p.room)) in
    rw (put-suc n x b) (subst (λ (ys : List Cell). Inv m (add_rows n v true (put_value x b)) ys) (append_assoc xs (cell x true ∷ [])
    (replicate n (cell x true))) all.0)

-- nothing is of every kind
empty-kind : (k : Kind) → of_kind k [] ≡ true
unfolding well_formed first_bad bad_after
empty-kind Binary = refl
empty-kind Text = refl

pub inv-null : {m : ℕ} (b : Builder) (xs : List Cell) → Inv m b xs → why_null b ≡ accepted → Inv m (put_null b) (xs ++ no_value ∷ [])
unfolding why_null put_null
inv-null b xs i w =
    let room = passed _ _ _ (passed _ _ _ w).1 in
    inv-row b xs zero_view no_value i (rw zero-view (short_row (blocks_now b) [] (omega arith))) (empty-kind b.state.kind) (leb-false _ _ room.0)
