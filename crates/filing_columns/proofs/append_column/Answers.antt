-- `filing_columns::append_column` meets its contract. Assumes nothing.
use Prim.Native.Nat.{ℕ}
use lib.Dec.{eqb}
use mathlib.Core.Bool.{true}
use mathlib.Core.Path.{ap, ◌∙◌}
use native.Mathlib.Omega.{arith}
use Rattle.basis.specs.Pick.{pick}
use Rattle.bounds.specs.Bounds.{row-limit-small, block-limit-small, byte-limit-small}
use Rattle.builder.specs.State.{closed}
use Rattle.builder.specs.declared.State.{State}
use Rattle.filing_columns.proofs.ColumnsLaws.{roomy, lays, poured-no, poured-yes}
use Rattle.filing_columns.proofs.append_column.Goals as goal

pub returns-then-is_err : goal.returns-then-is_err
returns-then-is_err c =
    let a = c.args in
    poured-no a.s a.views.now a.bytes.now a.nulls.now a.places.now a.srcviews.now a.srcbytes.now a.srcnulls.now a.c a.table.now a.srctable.now _
    c.why_column-why.ensures c.if-is_err.ensures.negation

pub close-t-requires : goal.close-t-requires
close-t-requires c =
    let a = c.args in
    let k = roomy a.s a.views.now a.bytes.now a.nulls.now a.places.now a.srcviews.now a.srcbytes.now a.srcnulls.now a.c a.table.now a.srctable.now _
    c.why_column-why.ensures c.if-is_err.ensures.negation in
    (omega (arith, k.blocks, block-limit-small), omega (arith, k.small, byte-limit-small))

pub put_blocks-end-requires : goal.put_blocks-end-requires
put_blocks-end-requires c =
    let a = c.args in
    lays a.s a.views.now a.bytes.now a.nulls.now a.places.now a.srcviews.now a.srcbytes.now a.srcnulls.now a.c a.table.now a.srctable.now _
    c.why_column-why.ensures c.if-is_err.ensures.negation _ c.close-t.ensures

pub put_rows-requires : goal.put_rows-requires
unfolding closed
put_rows-requires c =
    let a = c.args in
    let k = roomy a.s a.views.now a.bytes.now a.nulls.now a.places.now a.srcviews.now a.srcbytes.now a.srcnulls.now a.c a.table.now a.srctable.now _
    c.why_column-why.ensures c.if-is_err.ensures.negation in
    let b = ap (λ (z : State). z.blocks) c.close-t.ensures in
    (k.views-room, k.src-room, omega (arith, b, k.blocks, block-limit-small))

pub copy_column-requires : goal.copy_column-requires
copy_column-requires c =
    let a = c.args in
    let k = roomy a.s a.views.now a.bytes.now a.nulls.now a.places.now a.srcviews.now a.srcbytes.now a.srcnulls.now a.c a.table.now a.srctable.now _
    c.why_column-why.ensures c.if-is_err.ensures.negation in
    (k.bits, omega (arith, k.rows, row-limit-small), k.srcbits, omega (arith, k.srcrows, row-limit-small))

pub count_nulls-requires : goal.count_nulls-requires
count_nulls-requires c =
    let a = c.args in
    let k = roomy a.s a.views.now a.bytes.now a.nulls.now a.places.now a.srcviews.now a.srcbytes.now a.srcnulls.now a.c a.table.now a.srctable.now _
    c.why_column-why.ensures c.if-is_err.ensures.negation in
    k.srcbits

pub column_more-requires : goal.column_more-requires
unfolding closed
column_more-requires c =
    let a = c.args in
    let k = roomy a.s a.views.now a.bytes.now a.nulls.now a.places.now a.srcviews.now a.srcbytes.now a.srcnulls.now a.c a.table.now a.srctable.now _
    c.why_column-why.ensures c.if-is_err.ensures.negation in
    let b = ap (λ (z : State). z.blocks) c.close-t.ensures in
    let r = ap (λ (z : State). z.rows) c.close-t.ensures in
    (omega (arith, r, k.rows), omega (arith, b, k.blocks))

pub returns : goal.returns
returns c =
    let a = c.args in
    rw (c.put_blocks-end.ensures.1, c.put_blocks-end.ensures.2)
    (poured-yes a.s a.views.now a.bytes.now a.nulls.now a.places.now a.srcviews.now a.srcbytes.now a.srcnulls.now a.c a.table.now a.srctable.now _
    c.why_column-why.ensures c.if-is_err.ensures.negation _ c.close-t.ensures _ c.put_open.ensures _ _ _ _ _
    c.put_blocks-end.ensures.0 c.put_rows.ensures c.copy_column.ensures
    (c.flag-some.ensures ∙ ap (λ (z : ℕ). pick (eqb z 0) a.s.nulled true) c.count_nulls.ensures) c.column_more.ensures)
