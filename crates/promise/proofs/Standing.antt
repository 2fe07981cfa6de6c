-- No accepted call changes a completed block. Assumes nothing.
use Rattle.bounds.specs.Refusals.{accepted}
use mathlib.Core.Path.{◌≡◌, refl, sym, ap, ◌∙◌, subst}
use mathlib.Core.Bool.{Bool, true, false}
use mathlib.Core.List.{List, [], ◌∷◌, ◌++◌, append-nil, append_assoc}
use Prim.Native.Nat.{ℕ, zero, suc, ◌<◌}
use native.Mathlib.Omega.{arith}
use borrow.Author.Tests.{leb-false}
use lib.ListN.{length, set}
use lib.Seq.{take-set-le}
use Rattle.basis.specs.Pick.{pick}
use Rattle.views.specs.View.{short_most, is_short, short_view, view_at}
use Rattle.merging.specs.declared.Found.{Found}
use Rattle.merging.specs.declared.Found.TheVariants.{Row, Free, Full}
use Rattle.merging.specs.Table.{is_row}
use Rattle.column.specs.Lent.{buffers, block, block_room, data_room}
use Rattle.column.specs.Meaning.{blocks_of}
use Rattle.showing.specs.Rooms.{passed}
use Rattle.builder.specs.State.{Builder, is_open, recorded, blocks_now, fits_open, closed, complete, sized, make_room, lay, add_row, add_rows}
use Rattle.builder.specs.Values.{found, why_lay, why_store, why_values, enter, store, put_found, put_value, put_values, put_null}
use Rattle.builder.specs.Others.{why_block, put_block, put_view, put_column}
use Rattle.builder.specs.Finish.{copied, finished}
use Rattle.promise.specs.Calls.{Cell, Call, adds_values, adds_null, adds_block, adds_view, adds_column, finish_copy, finish, why, put}
use Rattle.promise.specs.Kept.{leaves}
use Rattle.promise.proofs.Fits.{block-table, data-bytes, grow, room-is}
use Rattle.promise.proofs.Blocks.{done_of, open_of, opened, now-are, done-lay}
use Rattle.promise.proofs.Steps.{Inv, inv-enter}
use Rattle.promise.proofs.Appends.{Takes, roomy, inv-roomy, Valued, valued, put-suc, put-zero}
use Rattle.promise.proofs.Others.{one-whole, done-whole, roomed-blocks, one-flat}
use Rattle.promise.proofs.Columns.{joined, done-column}

-- the completed blocks of b come first among those of c
abbrev Grows : Builder → Builder → Type 0
Grows b c = (ys : List (List ℕ)) × (done_of c ≡ done_of b ++ ys)

same-done : (b c : Builder) → done_of c ≡ done_of b → Grows b c
same-done b c e = ([], e ∙ sym (append-nil (done_of b)))

done-row : (v : List ℕ) (t : Bool) (b : Builder) → done_of (add_row v t b) ≡ done_of b
unfolding add_row blocks_of
done-row v t b = refl

done-rows : (n : ℕ) (v : List ℕ) (b : Builder) → done_of (add_rows n v true b) ≡ done_of b
unfolding add_rows
done-rows zero v b = refl
done-rows (suc n) v b = done-row v true (add_rows n v true b) ∙ done-rows n v b

done-copied : (b : Builder) → done_of (copied b) ≡ done_of b
unfolding copied recorded blocks_of
done-copied b = by (is_open b.state)
  where
    by : (t : Bool)
        → blocks_of (buffers b.lent.views b.lent.bytes
        (pick t (set b.lent.table b.state.blocks (block b.state.base b.state.fill)) b.lent.table) b.lent.nulls) b.state.blocks
        ≡ blocks_of b.lent b.state.blocks
    by true = rw (take-set-le b.state.blocks b.lent.table b.state.blocks (block b.state.base b.state.fill) (omega arith))
    by false = refl

-- completing makes the open block one of them
done-grown : (n : ℕ) (b : Builder) → done_of (grow n (complete b)) ≡ blocks_now b
unfolding grow sized complete closed blocks_now
done-grown n b = refl

grows-now : {m : ℕ} (b : Builder) (xs : List Cell) → Inv m b xs → (ys : List (List ℕ)) (c : Builder) → done_of c ≡ blocks_now b ++ ys → Grows b c
grows-now b xs i ys c e =
    let now = now-are b (omega (arith, i.fits.blocks, block-table b.lent)) in (
      opened (is_open b.state) (open_of b) ++ ys,
      e ∙ ap (λ (z : List (List ℕ)). z ++ ys) now
          ∙ append_assoc (done_of b) (opened (is_open b.state) (open_of b)) ys,
    )

grows-room : {m : ℕ} (n : ℕ) (b : Builder) (xs : List Cell) → Inv m b xs → Grows b (make_room n b)
grows-room n b xs i = subst (λ (c : Builder). Grows b c) (sym (room-is n b)) (by (fits_open b.state n))
  where
    by : (t : Bool) → Grows b (pick t b (grow n (complete b)))
    by true = same-done b b refl
    by false = grows-now b xs i [] (grow n (complete b)) (done-grown n b ∙ sym (append-nil (blocks_now b)))

grows-on : (b c d : Builder) → Grows b c → done_of d ≡ done_of c → Grows b d
grows-on b c d g e = (g.0, e ∙ g.1)

-- a long value stored
module _ {m : ℕ} (b : Builder) (xs : List Cell) (x : List ℕ) (i : Inv m b xs) (long : short_most < length x) (w : Takes b (length x)) where
  abbrev room : Builder
  room = make_room (length x) b

  done-store : done_of (store x room) ≡ done_of room
  unfolding store
  done-store =
      let r = roomy (length x) b i.fits w in
      let j = inv-roomy (length x) b xs i in
      done-row _ true (lay x room)
      ∙ done-lay x room (omega arith) j.below (omega (arith, r.block, block-table room.lent)) (omega (arith, r.bytes, data-bytes room.lent))

  grows-store : Grows b (store x room)
  grows-store = grows-on b room (store x room) (grows-room (length x) b xs i) done-store

module _ {m : ℕ} (b : Builder) (xs : List Cell) (x : List ℕ) (i : Inv m b xs) where
  grows-laid : (f : Found) → short_most < length x → Takes b (length x) → Grows b (store x (make_room (length x) (enter f b)))
  grows-laid f long w = grows-store (enter f b) xs x (inv-enter f b xs i) long w

  grows-found : (f : Found) → short_most < length x → pick (is_row f) accepted (why_lay b.state (block_room b.lent) (data_room b.lent) (length x))
      ≡ accepted → Grows b (put_found f x b)
  unfolding put_found
  grows-found (Row r) long w = same-done b (add_row (view_at b.lent.views r) true b) (done-row (view_at b.lent.views r) true b)
  grows-found (Free p) long w = grows-laid (Free p) long w
  grows-found Full long w = grows-laid Full long w

  grows-value : why_store b x ≡ accepted → Grows b (put_value x b)
  unfolding why_store put_value
  grows-value w = by (is_short (length x)) refl w
    where
      by : (t : Bool) → is_short (length x) ≡ t
          → pick t accepted (pick (is_row (found b x)) accepted (why_lay b.state (block_room b.lent) (data_room b.lent) (length x))) ≡ accepted
          → Grows b (pick t (add_row (short_view x) true b) (put_found (found b x) x b))
      by true e w = same-done b (add_row (short_view x) true b) (done-row (short_view x) true b)
      by false e w = grows-found (found b x) (leb-false _ _ e) w

  grows-values : (n : ℕ) → why_values n b x ≡ accepted → Grows b (put_values n x b)
  grows-values zero w = rw (put-zero x b) (same-done b b refl)
  grows-values (suc n) w =
      let p : Valued n b x = valued n b x w in
      let v : List ℕ = view_at (put_value x b).lent.views b.state.rows in
      rw (put-suc n x b) (grows-on b (put_value x b) (add_rows n v true (put_value x b)) (grows-value p.stores) (done-rows n v (put_value x b)))

  pub done-block : why_block b x ≡ accepted → done_of (put_block x b) ≡ blocks_now b ++ x ∷ []
  unfolding why_block put_block
  done-block w =
      let p = roomed-blocks 1 (length x) b (passed _ _ _ (passed _ _ _ w).1).1 in
      ap done_of (one-whole x (complete b)) ∙ done-whole b xs (x ∷ []) i p.0 (omega (arith, p.1, one-flat x))

done-null : (b : Builder) → done_of (put_null b) ≡ done_of b
unfolding put_null
done-null b = done-row _ false b

done-view : (b : Builder) (k offset n : ℕ) → done_of (put_view k offset n b) ≡ done_of b
unfolding put_view
done-view b k offset n = done-row _ true b

pub stays_put : {m : ℕ} (c : Call) (b : Builder) (xs : List Cell) → Inv m b xs → why c b ≡ accepted → (ys : List (List ℕ))
    × (done_of (put c b) ≡ leaves c b ++ ys)
stays_put (adds_values n x) b xs i w = grows-values b xs x i n w
stays_put adds_null b xs i w = same-done b (put_null b) (done-null b)
stays_put (adds_block x) b xs i w = grows-now b xs i (x ∷ []) (put_block x b) (done-block b xs x i w)
stays_put (adds_view k offset n) b xs i w = same-done b (put_view k offset n b) (done-view b k offset n)
stays_put (adds_column l c) b xs i w = grows-now b xs i (blocks_of l c.blocks) (put_column l c b) (done-column b xs l c i (joined b l c w))
stays_put finish_copy b xs i w = same-done b (copied b) (done-copied b)
stays_put finish b xs i w = (done_of (finished b), refl)
