-- What the rooms that buffers give are no more than, what a column that fits leaves to its rows, and what an accepted call's tests said. Assumes nothing.
use Rattle.std.specs.Prelude.{◌≡◌, refl, Bool, true, false, not, ◌&&◌, ℕ, zero, suc, ◌+◌, ◌*◌, ◌≤◌, ◌<◌, leb, length}
use Rattle.std.proofs.Math.Logic.{by_cases}
use Rattle.std.proofs.Math.Decide.{ℕ_discrete}
use Rattle.std.proofs.Common.{arith, leb-true, le-leb}
use Rattle.std.proofs.lemmas.Bool.{not-false}
use Rattle.bounds.specs.Bounds.{row_limit, block_limit, byte_limit}
use Rattle.bounds.specs.Refusals.{refuse, accepted, Why}
use Rattle.bounds.specs.declared.Refusal.{Refusal}
use Rattle.bounds.specs.declared.Refusal.TheVariants.{BadView}
use Rattle.views.specs.View.{view_size}
use Rattle.column.specs.declared.Column.{Column}
use Rattle.column.specs.Lent.{Lent, row_room, block_room, data_room, fits}
use Rattle.column.specs.Truth.{lowest}

pub both : (a b : Bool) → a && b ≡ true → (a ≡ true) × (b ≡ true)
both true b e = (refl, e)
both false b e = let z : ◌≡◌ {A = ℕ} 0 1 = cc in absurd (omega arith)

pub record Rooms (mapped : Bool) (l : Lent) : Type 0 where
  pub limit : row_room mapped l ≤ row_limit
  pub views : view_size * row_room mapped l ≤ length l.views
  pub nulls : mapped ≡ true → row_room mapped l ≤ 8 * length l.nulls
  pub blocks : block_room l ≤ block_limit
  pub table : block_room l ≤ length l.table
  pub most : data_room l ≤ byte_limit
  pub bytes : data_room l ≤ length l.bytes

pub rooms : (mapped : Bool) (l : Lent) → Rooms mapped l
unfolding row_room block_room data_room
rooms mapped l =
    record {
      limit = omega arith;
      views = omega arith;
      nulls = λ e. rw e (omega arith);
      blocks = omega arith;
      table = omega arith;
      most = omega arith;
      bytes = omega arith;
    }

-- a room is the same over buffers of the same lengths
pub row-room-same : (mapped : Bool) (l m : Lent) → length l.views ≡ length m.views → length l.nulls ≡ length m.nulls → row_room mapped l
    ≡ row_room mapped m
unfolding row_room
row-room-same true l m e f = rw (e, f)
row-room-same false l m e f = rw e

pub block-room-same : (l m : Lent) → length l.table ≡ length m.table → block_room l ≡ block_room m
unfolding block_room
block-room-same l m e = rw e

pub data-room-same : (l m : Lent) → length l.bytes ≡ length m.bytes → data_room l ≡ data_room m
unfolding data_room
data-room-same l m e = rw e

pub record RoomsFit (l : Lent) (c : Column) : Type 0 where
  pub rows : c.first + c.rows ≤ row_room c.mapped l
  pub blocks : c.blocks ≤ block_room l

pub fitting : (l : Lent) (c : Column) → fits l c ≡ true → RoomsFit l c
unfolding fits
fitting l c e =
    let p = both (leb (c.first + c.rows) (row_room c.mapped l)) (leb c.blocks (block_room l)) e in
    record { rows = leb-true (c.first + c.rows) (row_room c.mapped l) p.0; blocks = leb-true c.blocks (block_room l) p.1 }

pub fitted : (l : Lent) (c : Column) → RoomsFit l c → fits l c ≡ true
unfolding fits
fitted l c f = rw (le-leb (c.first + c.rows) (row_room c.mapped l) f.rows, le-leb c.blocks (block_room l) f.blocks)

-- a call was accepted: the test failed, and the later ones accept
pub passed : (r : Refusal) (b : Bool) (w : Why) → refuse r b w ≡ accepted → (b ≡ false) × (w ≡ accepted)
unfolding refuse
passed r true w e = let z : ◌≡◌ {A = ℕ} 0 1 = cc in absurd (omega arith)
passed r false w e = (refl, e)

-- and every row passed
pub all-passed : (good : ℕ → Bool) (n : ℕ) (w : Why) → lowest good n w ≡ accepted → ((i : ℕ) → i < n → good i ≡ true) × (w ≡ accepted)
unfolding lowest
all-passed good zero w e = ((λ i h. absurd (omega arith)), e)
all-passed good (suc n) w e =
    let below = all-passed good n (refuse (BadView n) (not (good n)) w) e in
    let last = passed (BadView n) (not (good n)) w below.1 in
    ((λ i h. by_cases (ℕ_discrete i n) (λ q. rw q (not-false (good n) last.0)) (λ q. below.0 i (omega arith))), last.1)
