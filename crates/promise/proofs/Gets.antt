-- While it is built, every row can be got, and is what was put there. Assumes nothing.
use Rattle.std.specs.Prelude.{Ok, Err}
use mathlib.Core.Path.{◌≡◌, refl, sym, ◌∙◌, subst}
use mathlib.Core.Bool.{true, true≢false}
use mathlib.Core.List.{List, [], map}
use Prim.Native.Nat.{ℕ, ◌<◌}
use native.Mathlib.Nat.{zero-add}
use native.Mathlib.Omega.{arith}
use borrow.Author.Tests.{leb-false, lt-leb}
use lib.ListN.{length, get_or, length-map}
use Rattle.bounds.specs.Refusals.{refuse, is_accepted, accepted, Why}
use Rattle.order.specs.Order.{same}
use Rattle.order.proofs.OrderLaws.{same_true}
use Rattle.views.specs.View.{view_at}
use Rattle.column.specs.Meaning.{blocks_of, shown_at}
use Rattle.column.specs.Truth.{reachable}
use Rattle.showing.specs.Row.{Row}
use Rattle.showing.proofs.RowsLaws.{rows-length}
use Rattle.showing.specs.Stores.{length-rows}
use Rattle.showing.specs.Truths.{AllIn, row-reachable}
use Rattle.showing.specs.Rooms.{both, passed}
use Rattle.builder.specs.State.{Builder, all_blocks, recorded, blocks_now, closed, complete}
use Rattle.builder.specs.Get.{why_get, get_value}
use Rattle.builder.specs.Values.{hits}
use Rattle.promise.specs.Calls.{Cell, bytes_in}
use Rattle.promise.proofs.Fits.{are-fits, block-table, sizes-complete}
use Rattle.promise.proofs.Blocks.{below-complete}
use Rattle.promise.proofs.Steps.{Inv, row-of}

pub is-accepted : (w : Why) → is_accepted w ≡ true → w ≡ accepted
is-accepted (Ok _) e = refl
is-accepted (Err r) e = absurd (true≢false (sym e))

-- the rows are as many as the cells
pub rows_are : {m : ℕ} (b : Builder) (xs : List Cell) → Inv m b xs → b.state.rows ≡ length xs
rows_are b xs i = sym (length-rows (view_at b.lent.views) b.state.rows) ∙ rows-length i.shows ∙ length-map xs bytes_in

module _ {m : ℕ} (b : Builder) (xs : List Cell) (i : Inv m b xs) where
  pub all_in : AllIn (recorded b.state b.lent) (all_blocks b.state)
  unfolding complete closed
  all_in k h = omega (arith, below-complete b (omega (arith, i.fits.blocks, block-table b.lent)) i.below k h, i.fits.bytes, (sizes-complete b).bytes)

  shows-at : (r : ℕ) → r < b.state.rows → Row (blocks_of (recorded b.state b.lent) (all_blocks b.state)) (view_at b.lent.views r)
      (get_or (map bytes_in xs) r [])
  unfolding blocks_now
  shows-at r h = row-of b xs i r h

  reached : (r : ℕ) → r < b.state.rows → reachable (recorded b.state b.lent) (all_blocks b.state) (view_at b.lent.views r) ≡ true
  reached r h = row-reachable (recorded b.state b.lent) (all_blocks b.state) all_in (shows-at r h)

  pub get-why : (r : ℕ) → r < b.state.rows → why_get b r ≡ accepted
  unfolding why_get refuse recorded
  get-why r h = rw (are-fits b i.fits, lt-leb b.state.rows r h, zero-add r, reached r h)

  pub get_value_lem : (r : ℕ) → r < b.state.rows → get_value b r ≡ get_or (map bytes_in xs) r []
  unfolding get_value shown_at recorded
  get_value_lem r h = rw (get-why r h, zero-add r) (shows-at r h).val

  -- the test of a hit tells the rows with these bytes from the others
  pub hit-is : (x : List ℕ) (r : ℕ) → r < b.state.rows → hits b x r ≡ same (get_or (map bytes_in xs) r []) x
  unfolding hits
  hit-is x r h = rw (get-why r h, get_value_lem r h)

  pub hit-row : (x : List ℕ) (r : ℕ) → hits b x r ≡ true → (r < b.state.rows) × Row (blocks_now b) (view_at b.lent.views r) x
  unfolding hits why_get
  hit-row x r e =
      let p = both (is_accepted (why_get b r)) _ e in
      let w : why_get b r ≡ accepted = is-accepted (why_get b r) p.0 in
      let q = passed _ _ _ (passed _ _ _ w).1 in
      let h : r < b.state.rows = leb-false _ _ q.0 in
      let shows : get_value b r ≡ x = same_true _ _ p.1 in
      (h, subst (λ (y : List ℕ). Row (blocks_now b) (view_at b.lent.views r) y) (sym (get_value_lem r h) ∙ shows) (row-of b xs i r h))
