use Rattle.builder.specs.RoomLaws.{accepted-is, blocks-most}
use Rattle.filing_values.proofs.ValueLaws.{times-no, times_none, times-on, many, files-not, files-many, once-rows}
use Rattle.bounds.specs.Bounds.{row-limit-small}
use lib.ListN.{length}
use mathlib.Core.Path.{◌≡◌, refl}
use native.Mathlib.Omega.{arith}
use borrow.Author.Rules.{rules}
use Rattle.filing_values.proofs.append_values.Goals as goal
use Rattle.filing_values.proofs.append_values.Goals.{then-is_err-via-then-is_err, then-is_err-via-else-is_err+then-n-eq0}

pub why_first-why-requires : goal.why_first-why-requires
why_first-why-requires c = rw c.blocks_room.ensures (blocks-most _ _)

pub returns-then-is_err : goal.returns-then-is_err
returns-then-is_err c =
    let a = c.args in
    elim c.then-is_err.branch [
      | then-is_err-via-then-is_err w ↦
          times-no a.s a.views.now a.bytes.now a.nulls.now a.places.now a.x.now (length a.table.now) a.n _ _ _ c.rows_room.ensures
          c.blocks_room.ensures c.bytes_room.ensures _ c.why_first-why.ensures w.if-is_err.ensures.negation a.table.now refl
      | then-is_err-via-else-is_err+then-n-eq0 w ↦
          rw (accepted-is c.why_first-why.result w.if-is_err.ensures.negation) (times_none a.s a.views.now a.bytes.now a.nulls.now a.places.now
          a.x.now (length a.table.now) a.n _ _ _ c.rows_room.ensures c.blocks_room.ensures c.bytes_room.ensures _ c.why_first-why.ensures
          w.if-is_err.ensures.negation w.if-n-eq0.true a.table.now refl)
    ]

pub add_one-r-requires : goal.add_one-r-requires
add_one-r-requires c =
    let a = c.args in
    let k = many a.s a.views.now a.bytes.now a.nulls.now a.places.now a.x.now (length a.table.now) a.n _ _ _ c.rows_room.ensures
    c.blocks_room.ensures c.bytes_room.ensures _ c.why_first-why.ensures c.if-is_err.ensures.negation c.if-n-eq0.false in
    k.judged

pub returns-then-is_err-2 : goal.returns-then-is_err-2
returns-then-is_err-2 c =
    let a = c.args in
    files-not a.s a.views.now a.bytes.now a.table.now a.nulls.now a.places.now a.x.now a.n
    (times-on a.s a.views.now a.bytes.now a.nulls.now a.places.now a.x.now (length a.table.now) a.n _ _ _ c.rows_room.ensures
    c.blocks_room.ensures c.bytes_room.ensures _ c.why_first-why.ensures c.if-is_err.ensures.negation c.if-n-eq0.false a.table.now refl) c.add_one-r.ensures c.if-is_err-2.ensures.negation

pub overflow_add-rows : goal.overflow_add-rows
overflow_add-rows c =
    let a = c.args in
    let k = many a.s a.views.now a.bytes.now a.nulls.now a.places.now a.x.now (length a.table.now) a.n _ _ _ c.rows_room.ensures
    c.blocks_room.ensures c.bytes_room.ensures _ c.why_first-why.ensures c.if-is_err.ensures.negation c.if-n-eq0.false in
    omega (arith, k.rows, row-limit-small)

pub copy_rows-requires : goal.copy_rows-requires
copy_rows-requires c =
    let a = c.args in
    let k = many a.s a.views.now a.bytes.now a.nulls.now a.places.now a.x.now (length a.table.now) a.n _ _ _ c.rows_room.ensures
    c.blocks_room.ensures c.bytes_room.ensures _ c.why_first-why.ensures c.if-is_err.ensures.negation c.if-n-eq0.false in
    let e : length c.add_one-r.new.views ≡ length a.views.now = search rules in
    (omega arith, omega (arith, k.views, e, c.if-n-eq0.false))

pub overflow_add-rows-2 : goal.overflow_add-rows-2
overflow_add-rows-2 c =
    let a = c.args in
    let k = many a.s a.views.now a.bytes.now a.nulls.now a.places.now a.x.now (length a.table.now) a.n _ _ _ c.rows_room.ensures
    c.blocks_room.ensures c.bytes_room.ensures _ c.why_first-why.ensures c.if-is_err.ensures.negation c.if-n-eq0.false in
    omega (arith, k.rows, row-limit-small)

pub put_run-requires : goal.put_run-requires
put_run-requires c =
    let a = c.args in
    let k = many a.s a.views.now a.bytes.now a.nulls.now a.places.now a.x.now (length a.table.now) a.n _ _ _ c.rows_room.ensures
    c.blocks_room.ensures c.bytes_room.ensures _ c.why_first-why.ensures c.if-is_err.ensures.negation c.if-n-eq0.false in
    let e : length c.add_one-r.new.nulls ≡ length a.nulls.now = search rules in
    (omega (arith, k.bits, e, c.if-n-eq0.false), omega (arith, k.rows, row-limit-small))

pub rows_more-requires : goal.rows_more-requires
rows_more-requires c =
    let a = c.args in
    let k = many a.s a.views.now a.bytes.now a.nulls.now a.places.now a.x.now (length a.table.now) a.n _ _ _ c.rows_room.ensures
    c.blocks_room.ensures c.bytes_room.ensures _ c.why_first-why.ensures c.if-is_err.ensures.negation c.if-n-eq0.false in
    let r = once-rows a.s a.views.now a.bytes.now a.table.now a.nulls.now a.places.now a.x.now a.n
    (times-on a.s a.views.now a.bytes.now a.nulls.now a.places.now a.x.now (length a.table.now) a.n _ _ _ c.rows_room.ensures
    c.blocks_room.ensures c.bytes_room.ensures _ c.why_first-why.ensures c.if-is_err.ensures.negation c.if-n-eq0.false a.table.now refl) c.add_one-r.ensures c.if-is_err-2.ensures.negation in
    omega (arith, k.rows, r, c.if-n-eq0.false)

pub returns : goal.returns
returns c =
    let a = c.args in
    files-many a.s a.views.now a.bytes.now a.table.now a.nulls.now a.places.now a.x.now a.n
    (times-on a.s a.views.now a.bytes.now a.nulls.now a.places.now a.x.now (length a.table.now) a.n _ _ _ c.rows_room.ensures
    c.blocks_room.ensures c.bytes_room.ensures _ c.why_first-why.ensures c.if-is_err.ensures.negation c.if-n-eq0.false a.table.now refl) c.add_one-r.ensures c.if-n-eq0.false c.if-is_err-2.ensures.negation c.rows_more.ensures c.copy_rows.ensures c.put_run.ensures
