use Rattle.column.proofs.FitLaws.{in-data-gives}
use Rattle.builder.specs.RoomLaws.{fits_gives, all-bounds}
use Rattle.appending.specs.BlockLaws.{view-fit, view-none, view-outside, view-over, view-kind, view-full, view-fine}
use Rattle.bounds.specs.Bounds.{byte-limit-small}
use mathlib.Core.Path.{sym, ◌∙◌}
use native.Mathlib.Omega.{arith}
use Rattle.appending.proofs.why_view.Goals as goal

pub returns-then-not-fits_lent : goal.returns-then-not-fits_lent
returns-then-not-fits_lent c = view-fit _ _ _ _ _ _ _ _ _ _ (sym c.fits_lent.ensures ∙ c.if-not-fits_lent.true)

pub returns-then-s-k : goal.returns-then-s-k
returns-then-s-k c = view-none _ _ _ _ _ _ _ _ _ _ (sym c.fits_lent.ensures ∙ c.if-not-fits_lent.false) c.if-s-k.true

pub bounds-starts-k : goal.bounds-starts-k
bounds-starts-k c =
    let a = c.args in
    let f = fits_gives a.s a.views.now a.bytes.now a.starts.now a.lens.now a.nulls.now a.places.now
    (sym c.fits_lent.ensures ∙ c.if-not-fits_lent.false) in
    omega (arith, f.starts, all-bounds a.s, c.if-s-k.false)

pub bounds-lens-k : goal.bounds-lens-k
bounds-lens-k c =
    let a = c.args in
    let f = fits_gives a.s a.views.now a.bytes.now a.starts.now a.lens.now a.nulls.now a.places.now
    (sym c.fits_lent.ensures ∙ c.if-not-fits_lent.false) in
    omega (arith, f.lens, all-bounds a.s, c.if-s-k.false)

pub returns-then-not-in_data : goal.returns-then-not-in_data
returns-then-not-in_data c = view-outside _ _ _ _ _ _ _ _ _ _ (sym c.fits_lent.ensures
    ∙ c.if-not-fits_lent.false) c.if-s-k.false
    (sym c.in_data.ensures ∙ c.if-not-in_data.true)

pub returns-then-size-o : goal.returns-then-size-o
returns-then-size-o c = view-over _ _ _ _ _ _ _ _ _ _ (sym c.fits_lent.ensures
    ∙ c.if-not-fits_lent.false) c.if-s-k.false
    (sym c.in_data.ensures ∙ c.if-not-in_data.false) c.if-size-o.true

pub overflow_add-a : goal.overflow_add-a
overflow_add-a c =
    let d = in-data-gives _ _ _ (sym c.in_data.ensures ∙ c.if-not-in_data.false) in
    omega (arith, d, byte-limit-small)

pub overflow_add-a-2 : goal.overflow_add-a-2
overflow_add-a-2 c =
    let d = in-data-gives _ _ _ (sym c.in_data.ensures ∙ c.if-not-in_data.false) in
    omega (arith, d, byte-limit-small)

pub slice_bounds-of_kind-end : goal.slice_bounds-of_kind-end
slice_bounds-of_kind-end c =
    let d = in-data-gives _ _ _ (sym c.in_data.ensures ∙ c.if-not-in_data.false) in
    omega (arith, d)

pub returns-then-not-of_kind : goal.returns-then-not-of_kind
returns-then-not-of_kind c =
    view-kind _ _ _ _ _ _ _ _ _ _ (sym c.fits_lent.ensures ∙ c.if-not-fits_lent.false) c.if-s-k.false
    (sym c.in_data.ensures ∙ c.if-not-in_data.false)
    c.if-size-o.false _ c.of_kind.ensures (c.if-not-of_kind.true)

pub returns-then-rows_room-s : goal.returns-then-rows_room-s
returns-then-rows_room-s c =
    view-full _ _ _ _ _ _ _ _ _ _ (sym c.fits_lent.ensures ∙ c.if-not-fits_lent.false) c.if-s-k.false
    (sym c.in_data.ensures
    ∙ c.if-not-in_data.false) c.if-size-o.false _
    c.of_kind.ensures _ c.rows_room.ensures (c.if-not-of_kind.false) c.if-rows_room-s.true

pub returns : goal.returns
returns c =
    view-fine _ _ _ _ _ _ _ _ _ _ (sym c.fits_lent.ensures ∙ c.if-not-fits_lent.false) c.if-s-k.false
    (sym c.in_data.ensures
    ∙ c.if-not-in_data.false) c.if-size-o.false _
    c.of_kind.ensures _ c.rows_room.ensures (c.if-not-of_kind.false) c.if-rows_room-s.false
