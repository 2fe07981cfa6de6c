use Rattle.builder.specs.RoomLaws.{room-gives}
use Rattle.builder.proofs.CallLaws.{does-short}
use Rattle.bounds.specs.Bounds.{row-limit-small}
use native.Mathlib.Omega.{arith}
use Rattle.values.proofs.add_one.Goals as goal

pub overflow_mul-s : goal.overflow_mul-s
overflow_mul-s c =
    let g = room-gives _ _ _ _ _ _ _ c.requires.room in
    omega (arith, g.rows, row-limit-small)

pub short_view-requires : goal.short_view-requires
short_view-requires c =
    let g = room-gives _ _ _ _ _ _ _ c.requires.room in
    (g.views, c.if-x-le-SHORT_MOST.true)

pub put_bit-requires : goal.put_bit-requires
put_bit-requires c =
    (room-gives _ _ _ _ _ _ _ c.requires.room).bits

pub row_more-requires : goal.row_more-requires
row_more-requires c =
    (room-gives _ _ _ _ _ _ _ c.requires.room).rows

pub returns-then-x-le-SHORT_MOST : goal.returns-then-x-le-SHORT_MOST
returns-then-x-le-SHORT_MOST c =
    does-short _ _ _ _ _ _ _ _ c.if-x-le-SHORT_MOST.true c.row_more.ensures
    c.short_view.ensures c.put_bit.ensures
