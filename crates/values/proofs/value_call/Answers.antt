use Rattle.values.proofs.First.{first-no, first_none, first-some}
use Rattle.builder.proofs.CallLaws.{does_not, does-many, does-rows, put-none}
use Rattle.builder.specs.DoesLaws.{does-no, does-put, starts-same, lens_same}
use Rattle.builder.specs.RoomLaws.{blocks-most}
use lib.ListN.{length}
use Rattle.bounds.specs.Bounds.{row-limit-small}
use mathlib.Core.Path.{◌≡◌, refl, sym}
use native.Mathlib.Omega.{arith}
use borrow.Author.Rules.{rules}
use Rattle.values.proofs.value_call.Goals as goal

pub why_first-w-requires : goal.why_first-w-requires
why_first-w-requires c = rw c.blocks_room.ensures (blocks-most _ _)

pub returns-then-is_err : goal.returns-then-is_err
returns-then-is_err c =
    let no = c.if-is_err.ensures.negation in
    does-no _ _ _ _ _ _ _ _ _ _
    (first-no _ _ _ _ _ _ _ _ _ c.why_first-w.ensures c.rows_room.ensures c.blocks_room.ensures c.bytes_room.ensures no) no

pub returns-then-n-eq0 : goal.returns-then-n-eq0
returns-then-n-eq0 c =
    does-put _ _ _ _ _ _ _ _ _ _
    (first_none _ _ _ _ _ _ _ _ _ c.why_first-w.ensures c.rows_room.ensures c.blocks_room.ensures c.bytes_room.ensures
    c.if-is_err.ensures.negation c.if-n-eq0.true)
    (put-none _ _ _ c.if-n-eq0.true) refl refl refl (sym (starts-same _ _)) (sym (lens_same _ _)) refl refl

pub add_one-r-requires : goal.add_one-r-requires
add_one-r-requires c =
    (first-some _ _ _ _ _ _ _ _ _ c.why_first-w.ensures c.rows_room.ensures c.blocks_room.ensures c.bytes_room.ensures
    c.if-is_err.ensures.negation c.if-n-eq0.false).judged

pub returns-then-is_err-2 : goal.returns-then-is_err-2
returns-then-is_err-2 c =
    does_not _ _ _ _ _ _ _ _ _
    (first-some _ _ _ _ _ _ _ _ _ c.why_first-w.ensures c.rows_room.ensures c.blocks_room.ensures c.bytes_room.ensures
    c.if-is_err.ensures.negation c.if-n-eq0.false).on
    c.add_one-r.ensures c.if-is_err-2.ensures.negation

pub overflow_add-rows : goal.overflow_add-rows
overflow_add-rows c =
    let a = c.args in
    let f = first-some a.s a.views.now a.bytes.now a.starts.now a.lens.now a.nulls.now a.places.now a.x.now a.n
    c.why_first-w.ensures c.rows_room.ensures c.blocks_room.ensures c.bytes_room.ensures
    c.if-is_err.ensures.negation c.if-n-eq0.false in
    omega (arith, f.rows, row-limit-small)

pub copy_rows-requires : goal.copy_rows-requires
copy_rows-requires c =
    let a = c.args in
    let f = first-some a.s a.views.now a.bytes.now a.starts.now a.lens.now a.nulls.now a.places.now a.x.now a.n
    c.why_first-w.ensures c.rows_room.ensures c.blocks_room.ensures c.bytes_room.ensures
    c.if-is_err.ensures.negation c.if-n-eq0.false in
    let e : length c.add_one-r.new.views ≡ length a.views.now = search rules in
    (omega arith, omega (arith, f.views, e, c.if-n-eq0.false))

pub overflow_add-rows-2 : goal.overflow_add-rows-2
overflow_add-rows-2 c =
    let a = c.args in
    let f = first-some a.s a.views.now a.bytes.now a.starts.now a.lens.now a.nulls.now a.places.now a.x.now a.n
    c.why_first-w.ensures c.rows_room.ensures c.blocks_room.ensures c.bytes_room.ensures
    c.if-is_err.ensures.negation c.if-n-eq0.false in
    omega (arith, f.rows, row-limit-small)

pub put_run-requires : goal.put_run-requires
put_run-requires c =
    let a = c.args in
    let f = first-some a.s a.views.now a.bytes.now a.starts.now a.lens.now a.nulls.now a.places.now a.x.now a.n
    c.why_first-w.ensures c.rows_room.ensures c.blocks_room.ensures c.bytes_room.ensures
    c.if-is_err.ensures.negation c.if-n-eq0.false in
    let e : length c.add_one-r.new.nulls ≡ length a.nulls.now = search rules in
    (omega (arith, f.bits, e, c.if-n-eq0.false), omega (arith, f.rows, row-limit-small))

pub rows_more-requires : goal.rows_more-requires
rows_more-requires c =
    let a = c.args in
    let f = first-some a.s a.views.now a.bytes.now a.starts.now a.lens.now a.nulls.now a.places.now a.x.now a.n
    c.why_first-w.ensures c.rows_room.ensures c.blocks_room.ensures c.bytes_room.ensures
    c.if-is_err.ensures.negation c.if-n-eq0.false in
    let e = does-rows _ _ _ _ _ _ _ _ _ f.on c.add_one-r.ensures c.if-is_err-2.ensures.negation in
    omega (arith, f.rows, e, c.if-n-eq0.false)

pub returns : goal.returns
returns c =
    does-many _ _ _ _ _ _ _ _ _
    (first-some _ _ _ _ _ _ _ _ _ c.why_first-w.ensures c.rows_room.ensures c.blocks_room.ensures c.bytes_room.ensures
    c.if-is_err.ensures.negation c.if-n-eq0.false).on
    c.add_one-r.ensures c.if-n-eq0.false c.if-is_err-2.ensures.negation
    c.rows_more.ensures c.copy_rows.ensures c.put_run.ensures
