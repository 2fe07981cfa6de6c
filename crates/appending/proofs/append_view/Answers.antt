use lib.ListN.{length-take}
use Rattle.builder.specs.RoomLaws.{fits_gives, room-gives, all-bounds}
use Rattle.appending.specs.BlockLaws.{seen, seen-inside, does-view}
use Rattle.builder.specs.DoesLaws.{does-no, does-same}
use Rattle.bounds.specs.Refusals.{is_accepted}
use Rattle.bounds.specs.Bounds.{row-limit-small, byte-limit-small}
use mathlib.Core.Path.{sym, ap, ◌∙◌}
use native.Mathlib.Omega.{arith}
use Rattle.appending.proofs.append_view.Goals as goal

pub returns-then-is_err : goal.returns-then-is_err
returns-then-is_err c =
    does-same _ _ _ _ _ _ _ _ _ _ c.anew-s.ensures (does-no _ _ _ _ _ _ _ _ _ _ c.why_view-why.ensures c.if-is_err.ensures.negation)

pub bounds-starts-block : goal.bounds-starts-block
bounds-starts-block c =
    let g = seen _ _ _ _ _ _ _ _ _ _ (ap is_accepted (sym c.why_view-why.ensures) ∙ c.if-is_err.ensures.negation) in
    let f = fits_gives _ _ _ _ _ _ _ g.fit in
    omega (arith, f.starts, all-bounds c.anew-s.result, g.there)

pub overflow_add-a : goal.overflow_add-a
overflow_add-a c =
    let g = seen _ _ _ _ _ _ _ _ _ _ (ap is_accepted (sym c.why_view-why.ensures) ∙ c.if-is_err.ensures.negation) in
    let i = seen-inside _ _ _ _ _ _ _ _ _ _ g in
    omega (arith, i, byte-limit-small)

pub overflow_add-e : goal.overflow_add-e
overflow_add-e c =
    let g = seen _ _ _ _ _ _ _ _ _ _ (ap is_accepted (sym c.why_view-why.ensures) ∙ c.if-is_err.ensures.negation) in
    let i = seen-inside _ _ _ _ _ _ _ _ _ _ g in
    omega (arith, i, byte-limit-small)

pub overflow_mul-o : goal.overflow_mul-o
overflow_mul-o c =
    let g = seen _ _ _ _ _ _ _ _ _ _ (ap is_accepted (sym c.why_view-why.ensures) ∙ c.if-is_err.ensures.negation) in
    let r = room-gives _ _ _ _ _ _ _ g.room in
    omega (arith, r.rows, row-limit-small)

pub slice_bounds-put_view-end : goal.slice_bounds-put_view-end
slice_bounds-put_view-end c =
    let g = seen _ _ _ _ _ _ _ _ _ _ (ap is_accepted (sym c.why_view-why.ensures) ∙ c.if-is_err.ensures.negation) in
    let i = seen-inside _ _ _ _ _ _ _ _ _ _ g in
    omega (arith, i)

pub put_view-requires : goal.put_view-requires
put_view-requires c =
    let g = seen _ _ _ _ _ _ _ _ _ _ (ap is_accepted (sym c.why_view-why.ensures) ∙ c.if-is_err.ensures.negation) in
    let i = seen-inside _ _ _ _ _ _ _ _ _ _ g in
    let r = room-gives _ _ _ _ _ _ _ g.room in
    (r.views, simp (length-take) (omega (arith, i, byte-limit-small)))

pub put_bit-requires : goal.put_bit-requires
put_bit-requires c =
    let g = seen _ _ _ _ _ _ _ _ _ _ (ap is_accepted (sym c.why_view-why.ensures) ∙ c.if-is_err.ensures.negation) in
    (room-gives _ _ _ _ _ _ _ g.room).bits

pub row_more-requires : goal.row_more-requires
row_more-requires c =
    let g = seen _ _ _ _ _ _ _ _ _ _ (ap is_accepted (sym c.why_view-why.ensures) ∙ c.if-is_err.ensures.negation) in
    (room-gives _ _ _ _ _ _ _ g.room).rows

pub returns : goal.returns
returns c =
    does-same _ _ _ _ _ _ _ _ _ _ c.anew-s.ensures (does-view _ _ _ _ _ _ _ _ _ _ _ c.why_view-why.ensures c.if-is_err.ensures.negation
    c.row_more.ensures c.put_view.ensures c.put_bit.ensures)
