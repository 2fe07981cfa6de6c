use Rattle.basis.specs.Pick.{pick}
use mathlib.Core.Bool.{true}
use lib.Dec.{eqb}
use Rattle.appending.specs.ColumnLaws.{taken, taking, does-column}
use Rattle.builder.specs.State.{closed}
use Rattle.builder.specs.declared.State.{State}
use Rattle.builder.specs.DoesLaws.{does-no}
use Prim.Native.Nat.{ℕ}
use lib.ListN.{length}
use Rattle.bounds.specs.Refusals.{is_accepted}
use Rattle.bounds.specs.Bounds.{row-limit-small, block-limit-small, byte-limit-small}
use mathlib.Core.Path.{◌≡◌, refl, sym, ap, ◌∙◌}
use native.Mathlib.Omega.{arith}
use borrow.Author.Rules.{rules}
use Rattle.appending.proofs.append_column.Goals as goal

pub returns-then-is_err : goal.returns-then-is_err
returns-then-is_err c = does-no _ _ _ _ _ _ _ _ _ _ c.why_column-why.ensures c.if-is_err.ensures.negation

pub put_record-requires : goal.put_record-requires
put_record-requires c =
    let k = taken _ _ _ _ _ _ _ _ _ _ _ _ _ (ap is_accepted (sym c.why_column-why.ensures) ∙ c.if-is_err.ensures.negation) in
    let f = k.fit in
    (f.starts, f.lens)

pub close-t-requires : goal.close-t-requires
close-t-requires c =
    let k = taken _ _ _ _ _ _ _ _ _ _ _ _ _ (ap is_accepted (sym c.why_column-why.ensures) ∙ c.if-is_err.ensures.negation) in
    let f = k.fit in
    (omega (arith, f.blocks, block-limit-small), omega (arith, f.small, byte-limit-small))

pub put_blocks-end-requires : goal.put_blocks-end-requires
put_blocks-end-requires c =
    let a = c.args in
    let k = taken _ _ _ _ _ _ _ _ _ _ _ _ _ (ap is_accepted (sym c.why_column-why.ensures) ∙ c.if-is_err.ensures.negation) in
    let e1 : length c.put_record.new.starts ≡ length a.starts.now = search rules in
    let e2 : length c.put_record.new.lens ≡ length a.lens.now = search rules in
    taking a.s a.views.now a.bytes.now a.starts.now a.lens.now a.nulls.now a.places.now a.src.views.now
    a.src.bytes.now a.src.starts.now a.src.lens.now a.src.nulls.now a.c k _ _ _ _ c.close-t.ensures refl e1 e2

pub put_rows-requires : goal.put_rows-requires
unfolding closed
put_rows-requires c =
    let k = taken _ _ _ _ _ _ _ _ _ _ _ _ _ (ap is_accepted (sym c.why_column-why.ensures) ∙ c.if-is_err.ensures.negation) in
    let b = ap (λ (z : State). z.blocks) c.close-t.ensures in
    (k.views, k.source.views, omega (arith, b, k.limit, block-limit-small))

pub copy_column-requires : goal.copy_column-requires
copy_column-requires c =
    let k = taken _ _ _ _ _ _ _ _ _ _ _ _ _ (ap is_accepted (sym c.why_column-why.ensures) ∙ c.if-is_err.ensures.negation) in
    (k.bits, omega (arith, k.rows, row-limit-small), k.source.bits, omega (arith, k.source.rows, row-limit-small))

pub count_nulls-added-requires : goal.count_nulls-added-requires
count_nulls-added-requires c =
    let k = taken _ _ _ _ _ _ _ _ _ _ _ _ _ (ap is_accepted (sym c.why_column-why.ensures) ∙ c.if-is_err.ensures.negation) in
    k.source.bits

pub column_more-requires : goal.column_more-requires
unfolding closed
column_more-requires c =
    let k = taken _ _ _ _ _ _ _ _ _ _ _ _ _ (ap is_accepted (sym c.why_column-why.ensures) ∙ c.if-is_err.ensures.negation) in
    let b = ap (λ (z : State). z.blocks) c.close-t.ensures in
    let r = ap (λ (z : State). z.rows) c.close-t.ensures in
    (omega (arith, r, k.rows), omega (arith, b, k.limit))

pub returns : goal.returns
returns c =
    let a = c.args in
    does-column a.s a.views.now a.bytes.now a.starts.now a.lens.now a.nulls.now a.places.now a.src.views.now
    a.src.bytes.now a.src.starts.now a.src.lens.now a.src.nulls.now a.c _ _ c.why_column-why.ensures
    c.if-is_err.ensures.negation c.close-t.ensures c.put_record.ensures.0
    c.put_record.ensures.1 c.put_blocks-end.ensures.0 c.put_blocks-end.ensures.1 c.put_blocks-end.ensures.2
    c.put_blocks-end.ensures.3 c.put_rows.ensures c.copy_column.ensures
    (c.flag-some.ensures ∙ ap (λ (z : ℕ). pick (eqb z 0) a.s.nulled true) c.count_nulls-added.ensures) c.column_more.ensures
