-- What is known of a builder whose state fits, and that each small step leaves the rooms as they were. Assumes nothing.
use mathlib.Core.Path.{◌≡◌, refl, ◌∙◌}
use mathlib.Core.Bool.{Bool, true, false, ◌&&◌}
use mathlib.Core.List.{List}
use Prim.Native.Nat.{ℕ, suc, ◌+◌, ◌*◌, ◌≤◌, ◌<◌}
use native.Mathlib.Omega.{arith}
use borrow.Author.Tests.{leb-true, le-leb}
use lib.Dec.{leb}
use lib.ListN.{length, set, length-set}
use lib.Seq.{length-paste}
use Rattle.basis.specs.Pick.{pick}
use Rattle.growth.specs.Growing.{fits_growth}
use Rattle.null_bits.proofs.PutLaws as bits
use Rattle.column.specs.declared.Block.{Block}
use Rattle.column.specs.Lent.{Lent, block, row_room, block_room, data_room}
use Rattle.showing.specs.Rooms.{both}
use Rattle.builder.specs.declared.State.{State}
use Rattle.merging.specs.declared.Found.{Found}
use Rattle.merging.specs.declared.Found.TheVariants.{Row, Free, Full}
use Rattle.merging.specs.Table.{entered}
use Rattle.builder.specs.State.{Builder, builder, rows_room, is_open, all_blocks, used, fits_rooms, fits_state, recorded, closed, complete, fits_open, sized, roomed, make_room, lay, add_row}
use Rattle.builder.specs.Values.{enter}

both-and : (a b : Bool) → a ≡ true → b ≡ true → a && b ≡ true
both-and a b p q = rw (p, q)

-- the four tests, as facts
pub record Fits (b : Builder) : Type 0 where
  pub rows : b.state.rows ≤ rows_room b
  pub blocks : all_blocks b.state ≤ block_room b.lent
  pub bytes : used b.state ≤ data_room b.lent
  pub growth : fits_growth b.state.growth ≡ true

pub fits-are : (b : Builder) → fits_state b ≡ true → Fits b
unfolding fits_state fits_rooms
fits-are b e =
    let p = both (leb b.state.rows (rows_room b)) _ e in
    let q = both (leb (all_blocks b.state) (block_room b.lent)) _ p.1 in
    let r = both (leb (used b.state) (data_room b.lent)) _ q.1 in
    record { rows = leb-true _ _ p.0; blocks = leb-true _ _ q.0; bytes = leb-true _ _ r.0; growth = r.1 }

pub are-fits : (b : Builder) → Fits b → fits_state b ≡ true
unfolding fits_state fits_rooms
are-fits b f =
    both-and (leb b.state.rows (rows_room b)) _ (le-leb _ _ f.rows)
    (both-and (leb (all_blocks b.state) (block_room b.lent)) _ (le-leb _ _ f.blocks)
    (both-and (leb (used b.state) (data_room b.lent)) _ (le-leb _ _ f.bytes) f.growth))

-- what the rooms say of the buffers
pub row-views : (b : Builder) → 16 * rows_room b ≤ length b.lent.views
unfolding rows_room row_room
row-views b = omega arith

pub row-bits : (b : Builder) → rows_room b ≤ 8 * length b.lent.nulls
unfolding rows_room row_room
row-bits b = omega arith

pub block-table : (l : Lent) → block_room l ≤ length l.table
unfolding block_room
block-table l = omega arith

pub data-bytes : (l : Lent) → data_room l ≤ length l.bytes
unfolding data_room
data-bytes l = omega arith

-- buffers of the same sizes give the same rooms
pub record Sizes (b c : Builder) : Type 0 where
  pub rows : rows_room c ≡ rows_room b
  pub blocks : block_room c.lent ≡ block_room b.lent
  pub bytes : data_room c.lent ≡ data_room b.lent

pub sizes-then : {b c d : Builder} → Sizes b c → Sizes c d → Sizes b d
sizes-then p q = record { rows = q.rows ∙ p.rows; blocks = q.blocks ∙ p.blocks; bytes = q.bytes ∙ p.bytes }

length-if : (t : Bool) (xs : List Block) (k : ℕ) (a : Block) → length (pick t (set xs k a) xs) ≡ length xs
length-if true xs k a = length-set xs k a
length-if false xs k a = refl

pub length-recorded : (s : State) (l : Lent) → length (recorded s l).table ≡ length l.table
unfolding recorded
length-recorded s l = length-if (is_open s) l.table s.blocks (block s.base s.fill)

pub sizes-complete : (b : Builder) → Sizes b (complete b)
unfolding complete closed rows_room row_room block_room data_room recorded
sizes-complete b = record { rows = refl; blocks = rw (length-recorded b.state b.lent); bytes = refl }

-- a size is taken
unfoldable pub grow : ℕ → Builder → Builder
grow n b = builder (sized n b.state) b.lent b.places

-- room is what there is, or a new block after the open one is completed
pub room-is : (n : ℕ) (b : Builder) → make_room n b ≡ pick (fits_open b.state n) b (grow n (complete b))
unfolding make_room roomed grow complete
room-is n b = by (fits_open b.state n)
  where
    by : (t : Bool) → builder (pick t b.state (sized n (closed b.state))) (pick t b.lent (recorded b.state b.lent)) b.places
        ≡ pick t b (builder (sized n (closed b.state)) (recorded b.state b.lent) b.places)
    by true = refl
    by false = refl

pub sizes-grow : (n : ℕ) (b : Builder) → Sizes b (grow n b)
unfolding grow rows_room sized
sizes-grow n b = record { rows = refl; blocks = refl; bytes = refl }

pub sizes-lay : (x : List ℕ) (b : Builder) → used b.state + length x ≤ length b.lent.bytes → Sizes b (lay x b)
unfolding lay rows_room row_room block_room data_room
sizes-lay x b h = record { rows = refl; blocks = refl; bytes = rw (length-paste b.lent.bytes (used b.state) x (length x) h (omega arith)) }

pub sizes-row : (v : List ℕ) (valid : Bool) (b : Builder) → length v ≡ 16 → b.state.rows < rows_room b → Sizes b (add_row v valid b)
unfolding add_row rows_room row_room block_room data_room
sizes-row v valid b e h =
    let k : 16 * b.state.rows + 16 ≤ length b.lent.views = omega (arith, row-views b) in
    record {
      rows = rw (length-paste b.lent.views (16 * b.state.rows) v 16 k (omega arith), bits.length-put-bit b.lent.nulls b.state.rows valid);
      blocks = refl;
      bytes = refl;
    }

length-entered : (f : Found) (e : ℕ) (t : List ℕ) → length (entered f e t) ≡ length t
length-entered (Row r) e t = refl
length-entered (Free p) e t = length-set t p e
length-entered Full e t = refl

pub rooms-enter : (f : Found) (b : Builder) → rows_room (enter f b) ≡ rows_room b
unfolding rows_room
rooms-enter f b = rw (length-entered f (suc b.state.rows) b.places)
