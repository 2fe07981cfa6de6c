use Rattle.bounds.specs.Bounds.{byte-limit-is}
use Rattle.builder.specs.declared.Merging.{Merging}
use Rattle.builder.specs.Rooms.{room_of_rows}
use Rattle.builder.specs.RoomLaws.{blocks-most, fits-is, rows-room-is}
use native.Mathlib.Omega.{arith}
use mathlib.Core.Path.{◌≡◌, sym, ◌∙◌}
use Prim.Native.Nat.{ℕ}
use Rattle.building_batches.proofs.tambuyeel_build.Goals as goal

same-room : {m m' : Merging} {v v' n n' p p' : ℕ} → m' ≡ m → v' ≡ v → n' ≡ n → p' ≡ p → room_of_rows m v n p ≡ room_of_rows m' v' n' p'
same-room em ev en ep = λ i. room_of_rows (sym em i) (sym ev i) (sym en i) (sym ep i)

pub state_fits-requires : goal.state_fits-requires
state_fits-requires c = rw c.blocks_room.ensures (blocks-most _ _)

pub loop-e-init : goal.loop-e-init
loop-e-init c = (
  omega arith,
  sym (fits-is _ _ _ _ _ _ _ _ _ _ c.rows_room-room.ensures c.blocks_room.ensures c.bytes_room.ensures)
      ∙ (sym c.state_fits.ensures ∙ c.if-not-state_fits.false),
  c.rows_room-room.ensures,
)

pub turn-s-requires : goal.turn-s-requires
turn-s-requires c =
    let l = c.loop-e in
    let room = l.invariant.2 ∙ rows-room-is l.s l.views l.bytes l.starts l.lens l.nulls l.places in (
      l.invariant.1,
      omega (arith, room, c.if-room-s.false),
      c.if-e-a.false,
      c.if-all-e.false,
      omega (arith, c.if-e-a-gt-BYTE_LIMIT.false, byte-limit-is),
    )
