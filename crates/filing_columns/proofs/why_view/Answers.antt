-- `filing_columns::why_view` meets its contract. Assumes nothing.
use mathlib.Core.Path.{sym, ◌∙◌}
use Rattle.bounds.specs.Bounds.{byte-limit-small}
use mathlib.Core.List.{[]}
use Rattle.column.specs.Lent.{buffers}
use Rattle.column.proofs.FitLaws.{in-data-gives}
use Rattle.filing_columns.proofs.ViewsLaws.{says-fit, says_none, says-outside, says-over, says-kind, says-full, says-fine}
use native.Mathlib.Omega.{arith}
use Rattle.filing_columns.proofs.why_view.Goals as goal

pub returns-then-not-fits_with : goal.returns-then-not-fits_with
returns-then-not-fits_with c =
    let a = c.args in
    says-fit a.s a.views.now a.bytes.now a.nulls.now a.places.now a.count a.k a.offset a.n a.b (sym
    c.fits_with.ensures ∙ c.if-not-fits_with.true)

pub returns-then-s-k : goal.returns-then-s-k
returns-then-s-k c =
    let a = c.args in
    says_none a.s a.views.now a.bytes.now a.nulls.now a.places.now a.count a.k a.offset a.n a.b (sym
    c.fits_with.ensures ∙ c.if-not-fits_with.false) c.if-s-k.true

pub returns-then-not-in_data : goal.returns-then-not-in_data
returns-then-not-in_data c =
    let a = c.args in
    says-outside a.s a.views.now a.bytes.now a.nulls.now a.places.now a.count a.k a.offset a.n a.b (sym
    c.fits_with.ensures ∙ c.if-not-fits_with.false)
    c.if-s-k.false (sym c.in_data.ensures ∙ c.if-not-in_data.true)

pub returns-then-b-o : goal.returns-then-b-o
returns-then-b-o c =
    let a = c.args in
    says-over a.s a.views.now a.bytes.now a.nulls.now a.places.now a.count a.k a.offset a.n a.b (sym
    c.fits_with.ensures ∙ c.if-not-fits_with.false)
    c.if-s-k.false (sym c.in_data.ensures ∙ c.if-not-in_data.false) c.if-b-o.true

pub overflow_add-a : goal.overflow_add-a
overflow_add-a c =
    let a = c.args in
    let d = in-data-gives (buffers [] a.bytes.now [] []) a.b.start a.b.len (sym c.in_data.ensures ∙ c.if-not-in_data.false) in
    omega (arith, d, c.if-b-o.false, byte-limit-small)

pub overflow_add-a-2 : goal.overflow_add-a-2
overflow_add-a-2 c =
    let a = c.args in
    let d = in-data-gives (buffers [] a.bytes.now [] []) a.b.start a.b.len (sym c.in_data.ensures ∙ c.if-not-in_data.false) in
    omega (arith, d, c.if-b-o.false, byte-limit-small)

pub slice_bounds-of_kind-end : goal.slice_bounds-of_kind-end
slice_bounds-of_kind-end c =
    let a = c.args in
    let d = in-data-gives (buffers [] a.bytes.now [] []) a.b.start a.b.len (sym c.in_data.ensures ∙ c.if-not-in_data.false) in
    omega (arith, d, c.if-b-o.false)

pub returns-then-not-of_kind : goal.returns-then-not-of_kind
returns-then-not-of_kind c =
    let a = c.args in
    says-kind a.s a.views.now a.bytes.now a.nulls.now a.places.now a.count a.k a.offset a.n a.b (sym
    c.fits_with.ensures ∙ c.if-not-fits_with.false) c.if-s-k.false
    (sym c.in_data.ensures ∙ c.if-not-in_data.false)
    c.if-b-o.false _ c.of_kind.ensures (c.if-not-of_kind.true)

pub returns-then-rows_room-s : goal.returns-then-rows_room-s
returns-then-rows_room-s c =
    let a = c.args in
    says-full a.s a.views.now a.bytes.now a.nulls.now a.places.now a.count a.k a.offset a.n a.b (sym
    c.fits_with.ensures ∙ c.if-not-fits_with.false)
    c.if-s-k.false (sym
    c.in_data.ensures ∙ c.if-not-in_data.false) c.if-b-o.false _
    c.of_kind.ensures _ c.rows_room.ensures (c.if-not-of_kind.false) c.if-rows_room-s.true

pub returns : goal.returns
returns c =
    let a = c.args in
    says-fine a.s a.views.now a.bytes.now a.nulls.now a.places.now a.count a.k a.offset a.n a.b (sym
    c.fits_with.ensures ∙ c.if-not-fits_with.false)
    c.if-s-k.false (sym
    c.in_data.ensures ∙ c.if-not-in_data.false) c.if-b-o.false _
    c.of_kind.ensures _ c.rows_room.ensures (c.if-not-of_kind.false) c.if-rows_room-s.false
