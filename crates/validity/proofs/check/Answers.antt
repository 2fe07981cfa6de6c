-- `validity::check` meets its contract. The invariant: the view of each row passed is true. Assumes nothing.
use mathlib.Core.Bool.{not}
use mathlib.Core.Path.{sym, ap, ◌∙◌}
use native.Mathlib.Omega.{arith}
use Rattle.bounds.specs.Bounds.{row-limit-small}
use Rattle.column.proofs.FitLaws.{fits_gives, fits-row, fits-listed}
use Rattle.validity.proofs.CheckLaws.{invalid-fit, invalid-row, invalid-block, valid}
use Rattle.validity.proofs.check.Goals as goal

pub returns-then-not-fits : goal.returns-then-not-fits
returns-then-not-fits c = invalid-fit _ _ _ _ _ _ (ap not (sym c.fits.ensures ∙ c.if-not-fits.true))

pub overflow_add-c : goal.overflow_add-c
overflow_add-c c = let g = fits_gives _ _ _ _ _ _ (sym c.fits.ensures ∙ c.if-not-fits.false) in
    omega (arith, row-limit-small)

pub is_true_at-requires : goal.is_true_at-requires
is_true_at-requires c = fits-row _ _ _ _ _ _ _ (sym c.fits.ensures ∙ c.if-not-fits.false) (omega arith)

pub returns-then-not-is_true_at : goal.returns-then-not-is_true_at
returns-then-not-is_true_at c =
    let s = c.args in invalid-row s.l.views.now s.l.bytes.now s.l.starts.now s.l.lens.now s.l.nulls.now s.c
    (ap not (sym c.fits.ensures ∙ c.if-not-fits.false)) _ (omega arith)
    c.loop-k.invariant (sym c.is_true_at.ensures ∙ c.if-not-is_true_at.true)

pub all_in_data-requires : goal.all_in_data-requires
all_in_data-requires c = fits-listed _ _ _ _ _ _ (sym c.fits.ensures ∙ c.if-not-fits.false)

pub returns-then-not-all_in_data : goal.returns-then-not-all_in_data
returns-then-not-all_in_data c =
    let s = c.args in invalid-block s.l.views.now s.l.bytes.now s.l.starts.now s.l.lens.now s.l.nulls.now s.c
    (ap not (sym c.fits.ensures ∙ c.if-not-fits.false))
    (λ r h. c.loop-k.invariant r (omega arith)) (ap not (sym c.all_in_data.ensures ∙ c.if-not-all_in_data.true))

pub returns : goal.returns
returns c =
    let s = c.args in valid s.l.views.now s.l.bytes.now s.l.starts.now s.l.lens.now s.l.nulls.now s.c
    (ap not (sym c.fits.ensures ∙ c.if-not-fits.false))
    (λ r h. c.loop-k.invariant r (omega arith)) (ap not (sym c.all_in_data.ensures ∙ c.if-not-all_in_data.false))
