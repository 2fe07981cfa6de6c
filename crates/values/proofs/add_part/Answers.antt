use Rattle.builder.specs.RoomLaws.{room-gives}
use Rattle.builder.proofs.CallLaws.{does-short}
use Rattle.bounds.specs.Bounds.{row-limit-small}
use Rattle.views.specs.View.{short_most}
use Rattle.column.proofs.FitLaws.{and_left, and_right}
use borrow.Author.Tests.{leb-true}
use lib.Dec.{leb}
use lib.ListN.{length, take, drop, length-take}
use Prim.Native.Nat.{◌-◌}
use mathlib.Core.Path.{sym, ◌∙◌}
use native.Mathlib.Omega.{arith}
use Rattle.values.proofs.add_part.Goals as goal

pub overflow_mul-s : goal.overflow_mul-s
overflow_mul-s c =
    let g = room-gives _ _ _ _ _ _ _ c.requires.0.room in
    omega (arith, g.rows, row-limit-small)

pub short_view_in-requires : goal.short_view_in-requires
short_view_in-requires c =
    let a = c.args in
    let g = room-gives _ _ _ _ _ _ _ c.requires.0.room in
    let y = sym c.is_short_in.ensures ∙ c.if-is_short_in.true in
    let n = leb-true (a.e - a.a) short_most (and_left (leb (a.e - a.a) short_most) _ y) in
    let l = leb-true short_most (length a.all.now - a.a) (and_right (leb (a.e - a.a) short_most) _ y) in
    (g.views, n, omega (arith, l, c.requires.1, c.requires.2))

pub put_bit-requires : goal.put_bit-requires
put_bit-requires c =
    (room-gives _ _ _ _ _ _ _ c.requires.0.room).bits

pub row_more-requires : goal.row_more-requires
row_more-requires c =
    (room-gives _ _ _ _ _ _ _ c.requires.0.room).rows

pub returns-then-is_short_in : goal.returns-then-is_short_in
returns-then-is_short_in c =
    let a = c.args in
    let y = sym c.is_short_in.ensures
    ∙ c.if-is_short_in.true in
    let n = leb-true (a.e - a.a) short_most (and_left (leb (a.e - a.a) short_most) _ y) in
    let x = take (a.e - a.a) (drop a.a a.all.now) in
    does-short a.s a.views.now a.bytes.now a.starts.now a.lens.now a.nulls.now a.places.now x
    (omega (arith, n, length-take (a.e - a.a) (drop a.a a.all.now))) c.row_more.ensures
    c.short_view_in.ensures c.put_bit.ensures
