use Rattle.appending.specs.ColumnLaws.{column-fit, column-no, column-full, column-room, alone-gives, lies, block-limit}
use Rattle.column.proofs.FitLaws as fit-laws
use Rattle.builder.specs.State.{held}
use Rattle.validity.specs.Check.{why_invalid}
use Rattle.column.specs.Lent.{lent}
use Rattle.column.specs.declared.Column.{Column}
use Rattle.builder.specs.RoomLaws.{fits_gives}
use Rattle.bounds.specs.Refusals.{is_accepted}
use Rattle.bounds.specs.Bounds.{row-limit-small, block-limit-small, byte-limit-small}
use mathlib.Core.Path.{refl, sym, ap, ◌∙◌}
use native.Mathlib.Omega.{arith}
use Rattle.std.proofs.lemmas.Result.{err_from_is_err_and}
use Rattle.appending.proofs.why_column.Goals as goal

pub returns-then-not-fits_lent : goal.returns-then-not-fits_lent
returns-then-not-fits_lent c =
    let a = c.args in
    column-fit (held a.s a.views.now a.bytes.now a.starts.now a.lens.now a.nulls.now a.places.now) _ a.c
    (sym c.fits_lent.ensures ∙ c.if-not-fits_lent.true)

pub returns-in_err-check : goal.returns-in_err-check
returns-in_err-check c =
    let a = c.args in
    let p = err_from_is_err_and c.from_residual.result c.from_residual.ensures.1 in
    rw (p.1, p.2) (column-no (held a.s a.views.now a.bytes.now a.starts.now a.lens.now a.nulls.now a.places.now)
    (lent a.src.views.now a.src.bytes.now a.src.starts.now a.src.lens.now a.src.nulls.now) a.c _
    (sym c.fits_lent.ensures ∙ c.if-not-fits_lent.false)
    (sym c.in_err-check.was ∙ c.check.ensures ∙ ap (λ (d : Column). why_invalid (lent a.src.views.now a.src.bytes.now a.src.starts.now
    a.src.lens.now a.src.nulls.now) d) c.with_kind.ensures) refl)

pub overflow_add-s : goal.overflow_add-s
overflow_add-s c =
    let a = c.args in
    let w = c.check.ensures ∙ ap (λ (d : Column). why_invalid (lent a.src.views.now a.src.bytes.now a.src.starts.now a.src.lens.now a.src.nulls.now) d)
    c.with_kind.ensures in
    let ok = ap is_accepted (sym w) ∙ ap is_accepted c.in_ok-check.was in
    let f = fits_gives _ _ _ _ _ _ _ (sym c.fits_lent.ensures ∙ c.if-not-fits_lent.false) in
    let g = alone-gives (held a.s a.views.now a.bytes.now a.starts.now a.lens.now a.nulls.now a.places.now) _ a.c ok in
    let q = fit-laws.fits_gives _ _ _ _ _ _ g.0 in
    omega (arith, f.rows, q.rows, row-limit-small)

pub returns-then-rows_room-s : goal.returns-then-rows_room-s
returns-then-rows_room-s c =
    let a = c.args in
    let w = c.check.ensures ∙ ap (λ (d : Column). why_invalid (lent a.src.views.now a.src.bytes.now a.src.starts.now a.src.lens.now a.src.nulls.now) d)
    c.with_kind.ensures in
    let ok = ap is_accepted (sym w) ∙ ap is_accepted c.in_ok-check.was in
    column-full _ _ _ _ _ _ _ _ _ _ _ _ a.c (sym c.fits_lent.ensures ∙ c.if-not-fits_lent.false) ok _ c.rows_room.ensures c.if-rows_room-s.true

pub total-requires : goal.total-requires
total-requires c =
    let a = c.args in
    let w = c.check.ensures ∙ ap (λ (d : Column). why_invalid (lent a.src.views.now a.src.bytes.now a.src.starts.now a.src.lens.now a.src.nulls.now) d)
    c.with_kind.ensures in
    let ok = ap is_accepted (sym w) ∙ ap is_accepted c.in_ok-check.was in
    let g = alone-gives (held a.s a.views.now a.bytes.now a.starts.now a.lens.now a.nulls.now a.places.now) _ a.c ok in
    let q = fit-laws.fits_gives _ _ _ _ _ _ g.0 in
    let li = fit-laws.fits-listed _ _ _ _ _ _ g.0 in (
      q.lens,
      q.blocks,
      λ k h. block-limit a.src.bytes.now a.src.starts.now a.src.lens.now a.c.blocks li
          (lies a.s a.views.now a.bytes.now a.starts.now a.lens.now a.nulls.now a.places.now a.src.views.now
          a.src.bytes.now a.src.starts.now a.src.lens.now a.src.nulls.now a.c g.1) k h,
    )

pub why_room-requires : goal.why_room-requires
why_room-requires c =
    let a = c.args in
    let w = c.check.ensures ∙ ap (λ (d : Column). why_invalid (lent a.src.views.now a.src.bytes.now a.src.starts.now a.src.lens.now a.src.nulls.now) d)
    c.with_kind.ensures in
    let ok = ap is_accepted (sym w) ∙ ap is_accepted c.in_ok-check.was in
    let f = fits_gives _ _ _ _ _ _ _ (sym c.fits_lent.ensures ∙ c.if-not-fits_lent.false) in
    let g = alone-gives (held a.s a.views.now a.bytes.now a.starts.now a.lens.now a.nulls.now a.places.now) _ a.c ok in
    let q = fit-laws.fits_gives _ _ _ _ _ _ g.0 in
    (omega (arith, f.blocks, q.blocks, block-limit-small), omega (arith, f.small, q.blocks, block-limit-small, byte-limit-small, c.total.ensures.1))

pub returns : goal.returns
returns c =
    let a = c.args in
    let w = c.check.ensures ∙ ap (λ (d : Column). why_invalid (lent a.src.views.now a.src.bytes.now a.src.starts.now a.src.lens.now a.src.nulls.now) d)
    c.with_kind.ensures in
    let ok = ap is_accepted (sym w) ∙ ap is_accepted c.in_ok-check.was in
    column-room _ _ _ _ _ _ _ _ _ _ _ _ a.c (sym c.fits_lent.ensures ∙ c.if-not-fits_lent.false) ok _ c.rows_room.ensures _ _ _ _
    c.if-rows_room-s.false c.blocks_room.ensures c.bytes_room.ensures c.total.ensures.0 c.why_room.ensures
