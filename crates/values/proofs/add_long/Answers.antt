use Rattle.builder.specs.DoesLaws.{does-no}
use Rattle.builder.specs.RoomLaws.{fits_gives, room-gives, ready}
use lib.ListN.{length}
use Rattle.builder.specs.declared.State.{State}
use Rattle.builder.specs.State.{used}
use Rattle.builder.proofs.PutLaws.{row_lt, free-lt, room-rows, room-used, room-fill, room-blocks, lay-room}
use Rattle.builder.proofs.CallLaws.{bytes-room-le, does-row, lay-is, does-lay}
use Rattle.bounds.specs.Bounds.{row-limit-small, block-limit-small, byte-limit-small}
use Rattle.bounds.specs.Refusals.{is_accepted}
use Rattle.merging.specs.Table.{is_row, row_of}
use Rattle.merging.specs.declared.Found.{Found}
use Rattle.merging.specs.declared.Found.TheVariants.{Row, Free, Full}
use Rattle.std.specs.Prelude.{false, ◌≡◌, ℕ}
use mathlib.Core.Path.{refl, sym, ap, ◌∙◌}
use native.Mathlib.Omega.{arith}
use Rattle.values.proofs.add_long.Goals as goal

no_row : (f : Found) → ((r : ℕ) → f ≡ Row r → ⊥) → is_row f ≡ false
no_row (Row r) h = absurd (h r refl)
no_row (Free p) h = refl
no_row Full h = refl

pub find-f-requires : goal.find-f-requires
find-f-requires c =
    let f = fits_gives _ _ _ _ _ _ _ c.requires.0.fit in
    (ready _ _ _ _ _ _ _ f, c.requires.1)

pub copy_view-requires : goal.copy_view-requires
copy_view-requires c =
    let f = fits_gives _ _ _ _ _ _ _ c.requires.0.fit in
    let g = room-gives _ _ _ _ _ _ _ c.requires.0.room in
    let r = rw c.in-Row.is at (row_lt _ _ _ _ _ _ c.find-f.ensures (ap is_row c.in-Row.is)) in
    (omega (arith, r, f.views), g.views)

pub put_bit-requires : goal.put_bit-requires
put_bit-requires c =
    (room-gives _ _ _ _ _ _ _ c.requires.0.room).bits

pub row_more-requires : goal.row_more-requires
row_more-requires c =
    (room-gives _ _ _ _ _ _ _ c.requires.0.room).rows

pub returns-in-Row : goal.returns-in-Row
returns-in-Row c =
    does-row _ _ _ _ _ _ _ _ _ c.requires.0.fit c.find-f.ensures c.requires.1 _ _ (ap is_row (sym c.in-Row.is)) refl
    (ap row_of (sym c.in-Row.is)) c.row_more.ensures c.copy_view.ensures
    c.put_bit.ensures

pub why_lay-w-requires : goal.why_lay-w-requires
why_lay-w-requires c =
    let f = fits_gives _ _ _ _ _ _ _ c.requires.0.fit in
    (omega (arith, f.blocks, block-limit-small), omega (arith, f.small, c.requires.0.small, byte-limit-small))

pub returns-then-is_err : goal.returns-then-is_err
returns-then-is_err c =
    does-no _ _ _ _ _ _ _ _ _ _ (lay-is _ _ _ _ _ _ _ _ _ c.requires.0.fit
    c.find-f.ensures c.requires.1 _
    refl (no_row _ c.in_default.not-Row) _ _ _
    c.blocks_room.ensures c.bytes_room.ensures
    c.why_lay-w.ensures) c.if-is_err.ensures.negation

pub enter-requires : goal.enter-requires
enter-requires c =
    let g = room-gives _ _ _ _ _ _ _ c.requires.0.room in
    (g.rows, free-lt _ _ _ _ _ _ c.find-f.ensures)

pub make_room-t-requires : goal.make_room-t-requires
make_room-t-requires c =
    let f = fits_gives _ _ _ _ _ _ _ c.requires.0.fit in
    (f.starts, f.lens, omega (arith, f.small, c.requires.0.small, byte-limit-small), f.growth)

pub overflow_add-t : goal.overflow_add-t
overflow_add-t c =
    let a = c.args in
    let f = fits_gives _ _ _ _ _ _ _ c.requires.0.fit in
    let u = ap used c.make_room-t.ensures.0 ∙ room-used a.s (length a.x.now) in
    omega (arith, u, f.small, byte-limit-small)

pub lay-requires : goal.lay-requires
lay-requires c =
    let a = c.args in
    let f = fits_gives _ _ _ _ _ _ _ c.requires.0.fit in
    let u = ap used c.make_room-t.ensures.0 ∙ room-used a.s (length a.x.now) in
    let k = lay-room _ _ _ _ (ap is_accepted (sym c.why_lay-w.ensures) ∙ c.if-is_err.ensures.negation) in
    omega (arith, u, k, c.bytes_room.ensures, bytes-room-le (length a.bytes.now))

pub overflow_mul-rows : goal.overflow_mul-rows
overflow_mul-rows c =
    let g = room-gives _ _ _ _ _ _ _ c.requires.0.room in
    omega (arith, g.rows, row-limit-small)

pub overflow_cast-t : goal.overflow_cast-t
overflow_cast-t c =
    let a = c.args in
    let f = fits_gives _ _ _ _ _ _ _ c.requires.0.fit in
    let u = ap (λ (z : State). z.blocks) c.make_room-t.ensures.0 in
    omega (arith, u, room-blocks a.s (length a.x.now), f.blocks, block-limit-small)

pub overflow_cast-t-2 : goal.overflow_cast-t-2
overflow_cast-t-2 c =
    let a = c.args in
    let f = fits_gives _ _ _ _ _ _ _ c.requires.0.fit in
    let u = ap (λ (z : State). z.fill) c.make_room-t.ensures.0 in
    omega (arith, u, room-fill a.s (length a.x.now), f.small, byte-limit-small)

pub long_view-requires : goal.long_view-requires
long_view-requires c =
    let g = room-gives _ _ _ _ _ _ _ c.requires.0.room in
    (g.views, omega (arith, c.requires.1), omega (arith, c.requires.0.small, byte-limit-small))

pub put_bit-requires-2 : goal.put_bit-requires-2
put_bit-requires-2 c =
    (room-gives _ _ _ _ _ _ _ c.requires.0.room).bits

pub stored-requires : goal.stored-requires
stored-requires c =
    let a = c.args in
    let f = fits_gives _ _ _ _ _ _ _ c.requires.0.fit in
    let g = room-gives _ _ _ _ _ _ _ c.requires.0.room in
    let u = ap (λ (z : State). z.rows) c.make_room-t.ensures.0 in
    let v = ap (λ (z : State). z.fill) c.make_room-t.ensures.0 in (
      omega (arith, u, room-rows a.s (length a.x.now), g.rows),
      omega (
        arith,
        v,
        room-fill a.s (length a.x.now),
        f.small,
        c.requires.0.small,
        byte-limit-small,
      ),
    )

pub returns : goal.returns
returns c =
    let f = fits_gives _ _ _ _ _ _ _ c.requires.0.fit in
    does-lay _ _ _ _ _ _ _ _ _ c.requires.0.fit c.find-f.ensures c.requires.1 _ refl (no_row _ c.in_default.not-Row) _ _ _
    c.blocks_room.ensures c.bytes_room.ensures c.why_lay-w.ensures _ c.if-is_err.ensures.negation f.starts f.lens c.make_room-t.ensures.0 c.stored.ensures
    c.long_view.ensures c.lay.ensures c.make_room-t.ensures.1
    c.make_room-t.ensures.2 c.put_bit-2.ensures c.enter.ensures
