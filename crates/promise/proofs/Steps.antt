-- What a builder shows: an invariant that its small steps keep. Assumes nothing.
use mathlib.Core.Path.{◌≡◌, refl, sym, ◌∙◌, subst}
use mathlib.Core.Bool.{Bool, true, false, not, ◌||◌}
use mathlib.Core.List.{List, [], ◌∷◌, ◌++◌, map, map-append}
use Prim.Native.Nat.{ℕ, suc, ◌+◌, ◌≤◌, ◌<◌}
use native.Mathlib.Omega.{arith}
use lib.ListN.{length, get_or}
use Rattle.basis.specs.Pick.{pick}
use Rattle.growth.specs.GrowthLaws.{grown-fits}
use Rattle.null_bits.specs.Bits.{is_valid}
use Rattle.views.specs.View.{short_most, long_view, view_at}
use Rattle.bounds.specs.Bounds.{block-limit-small, byte-limit-small}
use Rattle.column.specs.Lent.{block_room, data_room}
use Rattle.column.specs.Laid.{rows_of}
use Rattle.showing.specs.Row as row
use Rattle.showing.specs.Row.{Row, placed}
use Rattle.showing.specs.Rows.{Rows}
use Rattle.showing.proofs.RowsLaws.{rows_snoc, rows_ext, rows_at}
use Rattle.showing.specs.Stores.{length-rows, get_d_rows, views-paste, bits_put}
use Rattle.builder.specs.State.{Builder, rows_room, all_blocks, used, blocks_now, recorded, closed, complete, sized, lay, add_row}
use Rattle.merging.specs.declared.Found.{Found}
use Rattle.builder.specs.Values.{enter, store}
use Rattle.column.specs.declared.Kind.{Kind}
use Rattle.column.specs.Truth.{of_kind}
use Rattle.promise.specs.Calls.{Cell, cell, bytes_in, valid_in}
use Rattle.promise.proofs.Fits.{Fits, row-views, row-bits, block-table, data-bytes, Sizes, grow, rooms-enter, sizes-complete, sizes-grow, sizes-lay, sizes-row}
use Rattle.promise.proofs.Blocks.{Below, all-lay, open_of, done_of, now-complete, now-grow, now-row, below-complete, now-lay, ext-lay, length-open, length-done}

-- a null is among the cells
unfoldable pub any_null : List Cell → Bool
any_null [] = false
any_null (x ∷ xs) = not x.valid || any_null xs

any_snoc : (xs : List Cell) (x : Cell) → any_null (xs ++ x ∷ []) ≡ pick x.valid (any_null xs) true
unfolding any_null
any_snoc [] x = by x.valid
  where
    by : (t : Bool) → not t || false ≡ pick t false true
    by true = refl
    by false = refl
any_snoc (y ∷ xs) x = by y.valid x.valid (any_snoc xs x)
  where
    by : (t u : Bool) → any_null (xs ++ x ∷ []) ≡ pick u (any_null xs) true → not t || any_null (xs ++ x ∷ []) ≡ pick u (not t || any_null xs) true
    by true u e = e
    by false true e = refl
    by false false e = refl

-- each is of the kind
pub data OfKind (k : Kind) : List Cell → Type 0 where
  knil : OfKind k []
  kcons : {x : Cell} {xs : List Cell} → of_kind k x.bytes ≡ true → OfKind k xs → OfKind k (x ∷ xs)

pub kind-snoc : {k : Kind} {xs : List Cell} (x : Cell) → OfKind k xs → of_kind k x.bytes ≡ true → OfKind k (xs ++ x ∷ [])
kind-snoc x knil e = kcons e knil
kind-snoc x (kcons f g) e = kcons f (kind-snoc x g e)

-- the builder shows the cells, a row each, and keeps its numbers in order
pub record Inv (m : ℕ) (b : Builder) (xs : List Cell) : Type 0 where
  pub shows : Rows (blocks_now b) (rows_of (view_at b.lent.views) b.state.rows) (map bytes_in xs)
  pub bits : rows_of (is_valid b.lent.nulls) b.state.rows ≡ map valid_in xs
  pub nulled : b.state.nulled ≡ any_null xs
  pub kinds : OfKind b.state.kind xs
  pub below : Below b
  pub fits : Fits b
  -- the room for rows stays what it was at the start
  pub room : rows_room b ≡ m

-- the view of a row that shows a cell
pub row-of : {m : ℕ} (b : Builder) (xs : List Cell) → Inv m b xs → (r : ℕ) → r < b.state.rows → Row (blocks_now b) (view_at b.lent.views r)
    (get_or (map bytes_in xs) r [])
row-of b xs i r h =
    subst (λ (v : List ℕ). Row (blocks_now b) v (get_or (map bytes_in xs) r [])) (get_d_rows (view_at b.lent.views) b.state.rows r [] h)
    (rows_at i.shows r (rw (length-rows (view_at b.lent.views) b.state.rows) h))

-- a row more
module _ {m : ℕ} (b : Builder) (xs : List Cell) (v : List ℕ) (x : Cell) (i : Inv m b xs) (r : Row (blocks_now b) v x.bytes)
    (o : of_kind b.state.kind x.bytes ≡ true)
    (h : b.state.rows < rows_room b) where
  row_shows : Rows (blocks_now (add_row v x.valid b)) (rows_of (view_at (add_row v x.valid b).lent.views) (suc b.state.rows))
      (map bytes_in (xs ++ x ∷ []))
  unfolding add_row
  row_shows =
      rw (now-row v x.valid b, views-paste b.lent.views v b.state.rows r.size (omega (arith, row-views b)), map-append bytes_in xs (x ∷ []))
      (rows_snoc i.shows r)

  row-bit : rows_of (is_valid (add_row v x.valid b).lent.nulls) (suc b.state.rows) ≡ map valid_in (xs ++ x ∷ [])
  unfolding add_row
  row-bit = bits_put b.lent.nulls x.valid b.state.rows (omega (arith, row-bits b)) ∙ rw i.bits (sym (map-append valid_in xs (x ∷ [])))

  row-nulled : (add_row v x.valid b).state.nulled ≡ any_null (xs ++ x ∷ [])
  unfolding add_row
  row-nulled = rw i.nulled (sym (any_snoc xs x))

  row_fits : Sizes b (add_row v x.valid b) → Fits (add_row v x.valid b)
  unfolding add_row all_blocks block_room data_room
  row_fits s = record { rows = omega (arith, s.rows); blocks = i.fits.blocks; bytes = i.fits.bytes; growth = i.fits.growth }

  pub inv-row : Inv m (add_row v x.valid b) (xs ++ x ∷ [])
  unfolding add_row
  inv-row = record {
    shows = row_shows;
    bits = row-bit;
    nulled = row-nulled;
    kinds = kind-snoc x i.kinds o;
    below = i.below;
    fits = row_fits
        (sizes-row v x.valid b r.size h);
    room = (sizes-row v x.valid b r.size h).rows ∙ i.room;
  }

-- the open block completed, and a size taken
fits-complete : (b : Builder) → Fits b → Fits (complete b)
unfolding complete closed all_blocks
fits-complete b f =
    let s = sizes-complete b in
    record {
      rows = omega (arith, f.rows, s.rows);
      blocks = omega (arith, f.blocks, s.blocks);
      bytes = omega (arith, f.bytes, s.bytes);
      growth =
          f.growth;
    }

pub inv-complete : {m : ℕ} (b : Builder) (xs : List Cell) → Inv m b xs → Inv m (complete b) xs
unfolding complete closed recorded
inv-complete b xs i =
    record {
      shows = rw (now-complete b) i.shows;
      bits = i.bits;
      nulled = i.nulled;
      kinds = i.kinds;
      below = below-complete b (omega (arith, i.fits.blocks, block-table b.lent)) i.below;
      fits = fits-complete b i.fits;
      room = (sizes-complete b).rows ∙ i.room;
    }

fits-grow : (n : ℕ) (b : Builder) → Fits b → Fits (grow n b)
unfolding grow sized all_blocks
fits-grow n b f =
    let s = sizes-grow n b in
    record { rows = omega (arith, f.rows, s.rows); blocks = f.blocks; bytes = f.bytes; growth = grown-fits b.state.growth f.growth }

pub inv-grow : {m : ℕ} (n : ℕ) (b : Builder) (xs : List Cell) → Inv m b xs → Inv m (grow n b) xs
unfolding grow sized
inv-grow n b xs i =
    record {
      shows = rw (now-grow n b) i.shows;
      bits = i.bits;
      nulled = i.nulled;
      kinds = i.kinds;
      below = i.below;
      fits = fits-grow n b
          i.fits;
      room = (sizes-grow n b).rows ∙ i.room;
    }

-- a row entered in the merge table
pub inv-enter : {m : ℕ} (p : Found) (b : Builder) (xs : List Cell) → Inv m b xs → Inv m (enter p b) xs
unfolding blocks_now
inv-enter p b xs i = record { shows = i.shows; bits = i.bits; nulled = i.nulled; kinds = i.kinds; below = i.below; fits = fits; room = same ∙ i.room }
  where
    same : rows_room (enter p b) ≡ rows_room b
    same = rooms-enter p b

    fits : Fits (enter p b)
    fits = record { rows = omega (arith, i.fits.rows, same); blocks = i.fits.blocks; bytes = i.fits.bytes; growth = i.fits.growth }

-- bytes laid in the open block, and the row that shows them
module _ {m : ℕ} (b : Builder) (xs : List Cell) (x : List ℕ) (i : Inv m b xs) (long : short_most < length x)
    (room : b.state.blocks < block_room b.lent) (data-room : used b.state + length x ≤ data_room b.lent) where
  table : b.state.blocks < length b.lent.table
  table = omega (arith, block-table b.lent)

  enough : used b.state + length x ≤ length b.lent.bytes
  enough = omega (arith, data-bytes b.lent)

  lay-fits : Fits (lay x b)
  unfolding lay
  lay-fits =
      let s = sizes-lay x b enough in
      record {
        rows = omega (arith, i.fits.rows, s.rows);
        blocks = omega (arith, s.blocks, all-lay x b (omega arith));
        bytes = omega (arith, s.bytes);
        growth = i.fits.growth;
      }

  pub inv-lay : Inv m (lay x b) xs
  unfolding lay
  inv-lay =
      record {
        shows = rows_ext (ext-lay x b (omega arith) i.below table enough (omega (arith, i.fits.blocks, block-table b.lent))) i.shows;
        bits = i.bits;
        nulled = i.nulled;
        kinds = i.kinds;
        below = i.below;
        fits = lay-fits;
        room = (sizes-lay x b enough).rows ∙ i.room;
      }

  numbers : row.Fits x (length (done_of b)) (length (open_of b))
  unfolding block_room data_room
  numbers =
      record {
        len = omega (arith, byte-limit-small);
        block = omega (arith, block-limit-small, length-done x b (omega arith) i.below table enough);
        offset = omega (arith, byte-limit-small, length-open x b (omega arith) i.below table enough);
      }

  stored : Row (blocks_now (lay x b)) (long_view x b.state.blocks b.state.fill) x
  stored =
      rw (now-lay x b (omega arith) i.below table enough)
      (rw (length-done x b (omega arith) i.below table enough, length-open x b (omega arith) i.below table enough) at
      (placed (done_of b) (open_of b) x long numbers))

  enter-room : b.state.rows < rows_room b → (lay x b).state.rows < rows_room (lay x b)
  unfolding lay
  enter-room h = omega (arith, (sizes-lay x b enough).rows)

  same_kind : (lay x b).state.kind ≡ b.state.kind
  unfolding lay
  same_kind = refl

  pub inv-store : of_kind b.state.kind x ≡ true → b.state.rows < rows_room b → Inv m (store x b) (xs ++ cell x true ∷ [])
  unfolding store
  inv-store o h = inv-row (lay x b) xs (long_view x b.state.blocks b.state.fill) (cell x true) inv-lay stored (rw same_kind o) (enter-room h)
