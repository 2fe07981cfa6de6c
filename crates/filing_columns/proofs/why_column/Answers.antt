-- `filing_columns::why_column` meets its contract. Assumes nothing.
use mathlib.Core.Path.{sym, ap, ◌∙◌}
use native.Mathlib.Omega.{arith}
use Rattle.std.proofs.lemmas.Result.{err_from_is_err_and}
use Rattle.bounds.specs.Bounds.{row-limit-small, block-limit-small, byte-limit-small}
use Rattle.bounds.specs.Refusals.{is_accepted}
use Rattle.column.specs.declared.Column.{Column}
use Rattle.column.specs.Lent.{buffers}
use Rattle.validity.specs.Check.{why_invalid}
use Rattle.filing_columns.proofs.ColumnsLaws.{counts-source, source-small, by-fit, by-source, by-full, by-room, fit_small}
use Rattle.filing_columns.proofs.why_column.Goals as goal

pub returns-then-not-fits_with : goal.returns-then-not-fits_with
returns-then-not-fits_with c =
    let a = c.args in
    by-fit a.s a.views a.bytes a.count a.nulls a.places a.c _ _ (sym c.fits_with.ensures ∙ c.if-not-fits_with.true)

pub returns-in_err-check : goal.returns-in_err-check
returns-in_err-check c =
    let a = c.args in
    let p = err_from_is_err_and c.from_residual.result c.from_residual.ensures.1 in
    let w = c.check.ensures ∙ ap (λ (d : Column). why_invalid (buffers a.srcviews.now a.srcbytes.now a.srctable.now a.srcnulls.now) d) c.judged.ensures in
    rw (p.1, p.2) (sym c.in_err-check.was ∙ w ∙ by-source a.s a.views a.bytes a.count a.nulls a.places a.c _ _ (sym c.fits_with.ensures
    ∙ c.if-not-fits_with.false) (ap is_accepted (sym w ∙ c.in_err-check.was)))

pub overflow_add-s : goal.overflow_add-s
overflow_add-s c =
    let a = c.args in
    let f = fit_small a.s a.views a.bytes a.count a.nulls a.places a.c c.check.result 0 (sym c.fits_with.ensures ∙ c.if-not-fits_with.false) in
    let p = source-small a.s a.srcviews.now a.srcbytes.now a.srcnulls.now a.srctable.now a.c _ _ c.judged.ensures c.check.ensures
    (ap is_accepted c.in_ok-check.was) in
    omega (arith, f.0, p.0, row-limit-small)

pub returns-then-rows_room-s : goal.returns-then-rows_room-s
returns-then-rows_room-s c =
    let a = c.args in
    let w = c.check.ensures ∙ ap (λ (d : Column). why_invalid (buffers a.srcviews.now a.srcbytes.now a.srctable.now a.srcnulls.now) d) c.judged.ensures in
    by-full a.s a.views a.bytes a.count a.nulls a.places a.c _ _ (sym c.fits_with.ensures ∙ c.if-not-fits_with.false)
    (ap is_accepted (sym w ∙ c.in_ok-check.was)) _ c.rows_room.ensures c.if-rows_room-s.true

pub total-requires : goal.total-requires
total-requires c =
    let a = c.args in
    counts-source a.s a.srcviews.now a.srcbytes.now a.srcnulls.now a.srctable.now a.c _ _ c.judged.ensures c.check.ensures
    (ap is_accepted c.in_ok-check.was)

pub why_room-requires : goal.why_room-requires
why_room-requires c =
    let a = c.args in
    let f = fit_small a.s a.views a.bytes a.count a.nulls a.places a.c c.check.result 0 (sym c.fits_with.ensures ∙ c.if-not-fits_with.false) in
    let p = source-small a.s a.srcviews.now a.srcbytes.now a.srcnulls.now a.srctable.now a.c _ _ c.judged.ensures c.check.ensures
    (ap is_accepted c.in_ok-check.was) in
    (omega (arith, f.1, p.1, block-limit-small), omega (arith, f.2, p.1, p.2, c.total.ensures, block-limit-small, byte-limit-small))

pub returns : goal.returns
returns c =
    let a = c.args in
    let w = c.check.ensures ∙ ap (λ (d : Column). why_invalid (buffers a.srcviews.now a.srcbytes.now a.srctable.now a.srcnulls.now) d) c.judged.ensures in
    by-room a.s a.views a.bytes a.count a.nulls a.places a.c _ _ (sym c.fits_with.ensures ∙ c.if-not-fits_with.false)
    (ap is_accepted (sym w ∙ c.in_ok-check.was)) _ c.rows_room.ensures c.if-rows_room-s.false _ _ _ c.blocks_room.ensures c.bytes_room.ensures
    (rw (← c.total.ensures) c.why_room.ensures)
