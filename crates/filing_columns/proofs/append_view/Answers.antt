-- `filing_columns::append_view` meets its contract. Assumes nothing.
use mathlib.Core.Path.{refl}
use Rattle.bounds.specs.Bounds.{row-limit-small, byte-limit-small}
use lib.ListN.{length, length-take}
use Rattle.filing_columns.proofs.ViewsLaws.{shows, viewed-no, viewed-yes}
use native.Mathlib.Omega.{arith}
use Rattle.filing_columns.proofs.append_view.Goals as goal

pub returns-then-is_err : goal.returns-then-is_err
returns-then-is_err c =
    let a = c.args in
    viewed-no a.s a.views.now a.bytes.now a.nulls.now a.places.now (length a.table.now) a.block a.offset a.n _ _
    c.why_view-why.ensures c.if-is_err.ensures.negation _ refl c.block_or-b.ensures

pub overflow_add-a : goal.overflow_add-a
overflow_add-a c =
    let a = c.args in
    let g = shows a.s a.views.now a.bytes.now a.nulls.now a.places.now (length a.table.now) a.block a.offset a.n _ _
    c.why_view-why.ensures c.if-is_err.ensures.negation in
    omega (arith, g.small, byte-limit-small)

pub overflow_add-e : goal.overflow_add-e
overflow_add-e c =
    let a = c.args in
    let g = shows a.s a.views.now a.bytes.now a.nulls.now a.places.now (length a.table.now) a.block a.offset a.n _ _
    c.why_view-why.ensures c.if-is_err.ensures.negation in
    omega (arith, g.small, byte-limit-small)

pub overflow_mul-s : goal.overflow_mul-s
overflow_mul-s c =
    let a = c.args in
    let g = shows a.s a.views.now a.bytes.now a.nulls.now a.places.now (length a.table.now) a.block a.offset a.n _ _
    c.why_view-why.ensures c.if-is_err.ensures.negation in
    omega (arith, g.rows, row-limit-small)

pub slice_bounds-put_view-end : goal.slice_bounds-put_view-end
slice_bounds-put_view-end c =
    let a = c.args in
    let g = shows a.s a.views.now a.bytes.now a.nulls.now a.places.now (length a.table.now) a.block a.offset a.n _ _
    c.why_view-why.ensures c.if-is_err.ensures.negation in
    omega (arith, g.inside)

pub put_view-requires : goal.put_view-requires
put_view-requires c =
    let a = c.args in
    let g = shows a.s a.views.now a.bytes.now a.nulls.now a.places.now (length a.table.now) a.block a.offset a.n _ _
    c.why_view-why.ensures c.if-is_err.ensures.negation in
    (g.views, simp (length-take) (omega (arith, g.inside, g.small, byte-limit-small)))

pub put_bit-requires : goal.put_bit-requires
put_bit-requires c =
    let a = c.args in
    let g = shows a.s a.views.now a.bytes.now a.nulls.now a.places.now (length a.table.now) a.block a.offset a.n _ _
    c.why_view-why.ensures c.if-is_err.ensures.negation in
    g.bits

pub row_more-requires : goal.row_more-requires
row_more-requires c =
    let a = c.args in
    let g = shows a.s a.views.now a.bytes.now a.nulls.now a.places.now (length a.table.now) a.block a.offset a.n _ _
    c.why_view-why.ensures c.if-is_err.ensures.negation in
    g.rows

pub returns : goal.returns
returns c =
    let a = c.args in
    viewed-yes a.s a.views.now a.bytes.now a.nulls.now a.places.now (length a.table.now) a.block a.offset a.n _ _
    c.why_view-why.ensures c.if-is_err.ensures.negation c.row_more.ensures
    c.put_view.ensures c.put_bit.ensures _ refl c.block_or-b.ensures
