-- A builder that has just started or finished shows nothing, and a finished column shows what its builder did and passes the check. Assumes nothing.
use mathlib.Core.Path.{◌≡◌, refl, sym, ap, ◌∙◌}
use mathlib.Core.Bool.{Bool, true, false, not, ◌||◌, true≢false}
use mathlib.Core.List.{List, [], ◌∷◌, map}
use Prim.Native.Nat.{ℕ, zero, suc, ◌+◌, ◌≤◌, ◌<◌}
use native.Mathlib.Nat.{zero-add, le_of_suc-le-suc, not-suc-le-zero}
use native.Mathlib.Omega.{arith}
use borrow.Author.Tests.{not-false, le-leb}
use lib.ListN.{length, get_or, length-map, length-replicate}
use Rattle.null_bits.specs.Bits as bits
use Rattle.null_bits.specs.Bits.{is_valid}
use Rattle.bounds.specs.Refusals.{refuse, accepted}
use Rattle.bounds.specs.declared.Refusal.TheVariants.{Range}
use Rattle.growth.specs.Growing.{fits_growth}
use Rattle.growth.specs.GrowthLaws.{start_fits}
use Rattle.views.specs.View.{view_at}
use Rattle.column.specs.declared.Kind.{Kind}
use Rattle.column.specs.declared.Column.{Column}
use Rattle.column.specs.Lent.{Lent, row_room, block_room, all_in_data, in_data}
use Rattle.column.specs.Meaning.{row_view, blocks_of, row_valid}
use Rattle.column.specs.Truth.{of_kind, true_at}
use Rattle.column.proofs.LowestLaws.{lowest-none}
use Rattle.column.specs.Laid.{rows_of, views_of, bits_of}
use Rattle.showing.specs.Rows.{Rows, rnil}
use Rattle.showing.specs.Stores.{rows_same, rows-list}
use Rattle.showing.specs.Truths.{AllIn, row-true}
use Rattle.showing.specs.Rooms.{passed, fitted, both}
use Rattle.showing.specs.Shows.{Shows}
use Rattle.showing.proofs.ShowsLaws.{shows-row, shows-rows}
use Rattle.validity.specs.Check.{why_invalid}
use Rattle.builder.specs.declared.Merging.{Merging}
use Rattle.builder.specs.declared.Merging.TheVariants.{Off, On, UpTo}
use Rattle.builder.specs.declared.Sizes.{Sizes}
use Rattle.builder.specs.declared.Sizes.TheVariants.{Doubled, Same}
use Rattle.builder.specs.declared.Settings.{Settings}
use Rattle.builder.specs.State.{Builder, places_room, rows_room, all_blocks, recorded, blocks_now, closed, complete}
use Rattle.builder.specs.Start.{lawful_sizes, lawful_merging, growth_of, why_start, cleared, start}
use Rattle.builder.specs.Get.{column_of}
use Rattle.builder.specs.Finish.{finished}
use Rattle.promise.specs.Calls.{Cell, bytes_in, valid_in}
use Rattle.promise.proofs.Fits.{sizes-complete}
use Rattle.promise.proofs.Steps.{any_null, OfKind, knil, kcons, Inv}
use Rattle.promise.proofs.Gets.{rows_are, all_in}

-- ---- start

lawful-fits : (s : Sizes) → lawful_sizes s ≡ true → fits_growth (growth_of s) ≡ true
unfolding fits_growth
lawful-fits Doubled e = start_fits
lawful-fits (Same n) e = e

pub inv-start : (t : Settings) (l : Lent) (places : List ℕ) → why_start t ≡ accepted → Inv (rows_room (start t l places)) (start t l places) []
unfolding why_start start rows_of any_null all_blocks
inv-start t l places w =
    let lawful = both (lawful_sizes t.sizes) (lawful_merging t.merging) (not-false _ (passed _ _ _ w).0) in
    record {
      shows = rnil;
      bits = refl;
      nulled = refl;
      kinds = knil;
      below = λ k h. absurd (omega arith);
      fits = record { rows = omega arith; blocks = omega arith; bytes = omega arith; growth = lawful-fits t.sizes lawful.0 };
      room = refl;
    }

-- ---- finish

cleared-room : (m : Merging) (places : List ℕ) → places_room m (length (cleared m places)) ≡ places_room m (length places)
unfolding cleared
cleared-room Off places = refl
cleared-room On places = length-replicate (length places) 0
cleared-room (UpTo n) places = length-replicate (length places) 0

same-room : (b : Builder) → rows_room (finished b) ≡ rows_room b
unfolding rows_room finished recorded row_room
same-room b = rw (cleared-room b.state.merging b.places)

-- nothing is in a builder that was finished
pub inv-finish : {m : ℕ} (b : Builder) (xs : List Cell) → Inv m b xs → Inv m (finished b) []
unfolding finished rows_of any_null all_blocks
inv-finish b xs i =
    record {
      shows = rnil;
      bits = refl;
      nulled = refl;
      kinds = knil;
      below = λ k h. absurd (omega arith);
      fits = record { rows = omega arith; blocks = omega arith; bytes = omega arith; growth = i.fits.growth };
      room = same-room b ∙ i.room;
    }

all_valid : (xs : List Cell) → any_null xs ≡ false → (r : ℕ) → true ≡ get_or (map valid_in xs) r true
unfolding any_null
all_valid [] e r = refl
all_valid (x ∷ xs) e r = by x.valid e r (all_valid xs)
  where
    by : (t : Bool) → not t || any_null xs ≡ false → (r : ℕ) → (any_null xs ≡ false → (r : ℕ) → true ≡ get_or (map valid_in xs) r true)
        → true ≡ get_or (t ∷ map valid_in xs) r true
    by true e zero rest = refl
    by true e (suc r) rest = rest e r
    by false e r rest = absurd (true≢false e)

-- without a null there is no map, and every row is valid
bits-by : (nulls : List ℕ) (n : ℕ) (xs : List Cell) → n ≡ length xs → rows_of (is_valid nulls) n ≡ map valid_in xs → (t : Bool) → t ≡ any_null xs
    → rows_of (bits.valid_at nulls t) n ≡ map valid_in xs
unfolding bits.valid_at
bits-by nulls n xs k e true h = e
bits-by nulls n xs k e false h =
    rw (k, ← length-map xs valid_in) (rows-list (λ (r : ℕ). true) (map valid_in xs) true (λ r j. all_valid xs (sym h) r))

less-room : (t : Bool) (l : Lent) → row_room true l ≤ row_room t l
unfolding row_room
less-room true l = omega arith
less-room false l = omega arith

module _ {m : ℕ} (b : Builder) (xs : List Cell) (i : Inv m b xs) where
  same-views : views_of (finished b).lent (column_of b) ≡ rows_of (view_at b.lent.views) b.state.rows
  unfolding views_of finished recorded
  same-views = rows_same (row_view (finished b).lent (column_of b)) (view_at b.lent.views) b.state.rows (λ r h. ap (view_at b.lent.views) (zero-add r))

  same_bits : bits_of (finished b).lent (column_of b) ≡ map valid_in xs
  unfolding bits_of row_valid finished recorded
  same_bits =
      rows_same (row_valid (finished b).lent (column_of b)) (bits.valid_at b.lent.nulls b.state.nulled) b.state.rows
      (λ r h. ap (bits.valid_at b.lent.nulls b.state.nulled) (zero-add r))
      ∙ bits-by b.lent.nulls b.state.rows xs (rows_are b xs i) i.bits b.state.nulled i.nulled

  rows_fit : 0 + b.state.rows ≤ row_room b.state.nulled (finished b).lent
  unfolding rows_room finished recorded row_room
  rows_fit = omega (arith, i.fits.rows, less-room b.state.nulled b.lent)

  blocks-fit : all_blocks b.state ≤ block_room (finished b).lent
  unfolding finished complete closed
  blocks-fit = omega (arith, i.fits.blocks, (sizes-complete b).blocks)

  inside : AllIn (finished b).lent (all_blocks b.state)
  unfolding finished
  inside = all_in b xs i

  rows-shown : Rows (blocks_of (finished b).lent (all_blocks b.state)) (views_of (finished b).lent (column_of b)) (map bytes_in xs)
  unfolding finished blocks_now
  rows-shown = rw same-views i.shows

  pub shows-finished : Shows (finished b).lent (column_of b) (map bytes_in xs) (map valid_in xs)
  shows-finished =
      record {
        rows = rows-shown;
        bits = same_bits;
        fitted = fitted (finished b).lent (column_of b) (record { rows = rows_fit; blocks = blocks-fit });
        inside = inside;
      }

-- ---- the check

pub all-inside : (l : Lent) (n : ℕ) → AllIn l n → all_in_data l n ≡ true
unfolding all_in_data in_data
all-inside l zero a = refl
all-inside l (suc n) a = rw (all-inside l n (λ k h. a k (omega arith)), le-leb _ _ (a n (omega arith)))

kind_at : (k : Kind) (xs : List Cell) → OfKind k xs → (r : ℕ) → r < length xs → of_kind k (get_or (map bytes_in xs) r []) ≡ true
kind_at k [] knil r h = absurd (not-suc-le-zero h)
kind_at k (x ∷ xs) (kcons e f) zero h = e
kind_at k (x ∷ xs) (kcons e f) (suc r) h = kind_at k xs f r (le_of_suc-le-suc h)

pub check-shown : (xs : List Cell) {l : Lent} {c : Column} {bs : List Bool} → Shows l c (map bytes_in xs) bs → OfKind c.kind xs → why_invalid l c ≡ accepted
unfolding why_invalid refuse
check-shown xs {l} {c} s o =
    let good : (r : ℕ) → r < c.rows → true_at c.kind l c r ≡ true =
    λ r h. row-true l c.kind c.blocks s.inside (shows-row s r h) (kind_at c.kind xs o r (omega (arith, shows-rows s, length-map xs bytes_in))) in
    rw (
      s.fitted,
      ← lowest-none (true_at c.kind l c) c.rows (refuse Range (not (all_in_data l c.blocks)) accepted) good,
      all-inside l
          c.blocks s.inside,
    )
