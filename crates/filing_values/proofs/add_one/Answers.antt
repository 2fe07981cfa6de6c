use Rattle.filing_values.proofs.ValueLaws.{files-short}
use Rattle.builder.specs.RoomLaws.{room-gives}
use Rattle.bounds.specs.Bounds.{row-limit-small}
use lib.ListN.{length}
use mathlib.Core.Path.{refl}
use native.Mathlib.Omega.{arith}
use Rattle.filing_values.proofs.add_one.Goals as goal

pub overflow_mul-s : goal.overflow_mul-s
overflow_mul-s c =
    let g = room-gives _ _ _ _ _ _ _ c.requires.room in
    omega (arith, g.rows, row-limit-small)

pub short_view-requires : goal.short_view-requires
short_view-requires c = ((room-gives _ _ _ _ _ _ _ c.requires.room).views, c.if-x-le-SHORT_MOST.true)

pub put_bit-requires : goal.put_bit-requires
put_bit-requires c = (room-gives _ _ _ _ _ _ _ c.requires.room).bits

pub row_more-requires : goal.row_more-requires
row_more-requires c = (room-gives _ _ _ _ _ _ _ c.requires.room).rows

pub returns-then-x-le-SHORT_MOST : goal.returns-then-x-le-SHORT_MOST
returns-then-x-le-SHORT_MOST c =
    files-short _ _ _ _ _ _ (length c.args.table.now) c.if-x-le-SHORT_MOST.true c.row_more.ensures c.short_view.ensures c.put_bit.ensures _ refl

pub add_long-requires : goal.add_long-requires
add_long-requires c = (c.requires, c.if-x-le-SHORT_MOST.false)
