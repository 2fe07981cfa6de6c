use Rattle.bounds.specs.Bounds.{row-limit-small}
use Rattle.builder.specs.Rooms.{room_of_blocks}
use mathlib.Core.Path.{refl}
use Rattle.filing.proofs.EndLaws.{null-room, null-no, null-yes}
use lib.ListN.{length}
use native.Mathlib.Omega.{arith}
use Rattle.filing.proofs.append_null.Goals as goal

pub why_null-why-requires : goal.why_null-why-requires
unfolding room_of_blocks
why_null-why-requires c = rw c.blocks_room.ensures (omega arith)

pub returns-then-is_err : goal.returns-then-is_err
returns-then-is_err c =
    null-no c.args.s c.args.views.now c.args.bytes.now c.args.nulls.now c.args.places.now (length c.args.table.now) _ _
    _ c.rows_room.ensures c.blocks_room.ensures
    c.bytes_room.ensures _ c.why_null-why.ensures c.if-is_err.ensures.negation _ refl

pub overflow_mul-s : goal.overflow_mul-s
overflow_mul-s c =
    let f = null-room c.args.s c.args.views.now c.args.bytes.now c.args.nulls.now c.args.places.now
    (length c.args.table.now) _ _ _ c.rows_room.ensures
    c.blocks_room.ensures c.bytes_room.ensures _
    c.why_null-why.ensures c.if-is_err.ensures.negation in
    omega (arith, f.room.rows, row-limit-small)

pub zero_view-requires : goal.zero_view-requires
zero_view-requires c =
    let f = null-room c.args.s c.args.views.now c.args.bytes.now c.args.nulls.now c.args.places.now
    (length c.args.table.now) _ _ _ c.rows_room.ensures
    c.blocks_room.ensures c.bytes_room.ensures _
    c.why_null-why.ensures c.if-is_err.ensures.negation in
    omega (arith, f.room.views)

pub put_bit-requires : goal.put_bit-requires
put_bit-requires c =
    let f = null-room c.args.s c.args.views.now c.args.bytes.now c.args.nulls.now c.args.places.now
    (length c.args.table.now) _ _ _ c.rows_room.ensures c.blocks_room.ensures c.bytes_room.ensures _
    c.why_null-why.ensures
    c.if-is_err.ensures.negation in omega (arith, f.room.bits)

pub row_more-requires : goal.row_more-requires
row_more-requires c =
    let f = null-room c.args.s c.args.views.now c.args.bytes.now c.args.nulls.now c.args.places.now
    (length c.args.table.now) _ _ _ c.rows_room.ensures c.blocks_room.ensures c.bytes_room.ensures _ c.why_null-why.ensures
    c.if-is_err.ensures.negation in f.room.rows

pub returns : goal.returns
returns c =
    null-yes c.args.s c.args.views.now c.args.bytes.now c.args.nulls.now c.args.places.now (length c.args.table.now) _
    _ _ c.rows_room.ensures c.blocks_room.ensures c.bytes_room.ensures _ c.why_null-why.ensures
    c.if-is_err.ensures.negation c.row_more.ensures
    c.zero_view.ensures c.put_bit.ensures _ refl
