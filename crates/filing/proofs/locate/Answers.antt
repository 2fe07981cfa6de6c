-- `filing::locate` meets its contract. Assumes nothing.
use Rattle.column.specs.Lent.{block}
use Rattle.filing.specs.RowLaws.{why-fit, why-late, why-bad, why-fine, got-part}
use Rattle.filing.specs.FilesLaws.{fitted}
use Rattle.views.specs.View.{view_at, block_of}
use Prim.Native.Nat.{ℕ}
use lib.ListN.{length, get_or}
use mathlib.Core.Path.{refl, sym, ◌∙◌}
use Rattle.filing.proofs.locate.Goals as goal

pub returns-then-not-fits_with : goal.returns-then-not-fits_with
returns-then-not-fits_with c =
    let a = c.args in
    why-fit a.s a.views.now a.bytes.now a.nulls.now a.places.now (length a.table.now) a.r _ (sym c.fits_with.ensures
    ∙ c.if-not-fits_with.true) a.table.now refl (λ h. refl)

pub returns-then-s-r : goal.returns-then-s-r
returns-then-s-r c =
    let a = c.args in
    why-late a.s a.views.now a.bytes.now a.nulls.now a.places.now (length a.table.now) a.r _
    (sym c.fits_with.ensures ∙ c.if-not-fits_with.false) c.if-s-r.true a.table.now refl (λ h. refl)

pub spot_row-spot-requires : goal.spot_row-spot-requires
spot_row-spot-requires c =
    let a = c.args in
    let f = fitted a.s a.views.now a.bytes.now a.nulls.now a.places.now (length a.table.now) (sym c.fits_with.ensures
    ∙ c.if-not-fits_with.false) in
    (f.views, c.if-s-r.false, f.blocks)

pub returns-then-not-is_reached : goal.returns-then-not-is_reached
returns-then-not-is_reached c =
    let a = c.args in
    why-bad a.s a.views.now a.bytes.now a.nulls.now a.places.now (length a.table.now) a.r _
    (sym c.fits_with.ensures ∙ c.if-not-fits_with.false)
    c.if-s-r.false _ c.spot_row-spot.ensures.1 (sym c.is_reached.ensures ∙ c.if-not-is_reached.true) a.table.now refl (λ h. refl)

pub returns : goal.returns
returns c =
    let a = c.args in
    let n = length a.table.now in
    let b = get_or a.table.now (block_of (view_at a.views.now a.r)) (block 0 0) in
    let fit = sym c.fits_with.ensures ∙ c.if-not-fits_with.false in
    let in_reach = sym c.is_reached.ensures ∙ c.if-not-is_reached.false in
    let got = λ (v d : ℕ × ℕ). got-part a.s a.views.now a.bytes.now a.nulls.now a.places.now n a.r b fit c.if-s-r.false _ c.spot_row-spot.ensures.1
    in_reach _ v d _ refl refl a.table.now refl (λ h. refl) in (
      why-fine a.s a.views.now a.bytes.now a.nulls.now a.places.now n a.r b fit c.if-s-r.false _ c.spot_row-spot.ensures.1 in_reach
          a.table.now refl (λ h. refl),
      c.spot_row-spot.ensures.0,
      (got (0, 0) (0, 0)).0,
      λ v d. (got v d).1,
    )
