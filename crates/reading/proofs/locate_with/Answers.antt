-- `reading::locate_with` meets its contract. Assumes nothing.
use mathlib.Core.Path.{sym, ◌∙◌}
use native.Mathlib.Omega.{arith}
use Rattle.reading.proofs.ReadingLaws.{value-unfit, value-past}
use Rattle.reading.proofs.LocatedLaws.{located-no, located-is, judged-lies}
use Rattle.bounds.specs.declared.Refusal.TheVariants.{Fit, Row}
use Rattle.column.proofs.SpotLaws.{spot-lies, spot_is}
use Rattle.reading.specs.Reading.{LiesAt}
use Rattle.reading.proofs.locate_with.Goals as goal

pub returns-then-not-fits_with : goal.returns-then-not-fits_with
unfolding LiesAt
returns-then-not-fits_with c = (
  tt,
  λ table sees. located-no _ _ _ Fit (value-unfit _ _ _ (sym (c.fits_with.ensures.1 _ table sees.count)
      ∙ c.if-not-fits_with.true)),
)

pub returns-then-c-row : goal.returns-then-c-row
unfolding LiesAt
returns-then-c-row c = (
  tt,
  λ table sees. located-no _ _ _ Row (value-past _ _ _ (sym (c.fits_with.ensures.1 _ table sees.count)
      ∙ c.if-not-fits_with.false) c.if-c-row.true),
)

pub returns : goal.returns
returns c =
    let g = c.fits_with.ensures.0 (c.if-not-fits_with.false) in (
      judged-lies _ _ _ _ _ c.judged.ensures (spot-lies _ _ _ _ _ _ _ c.room_of.ensures c.spot_with.ensures
          (omega arith)),
      λ table sees. located-is _ _ _ (sym (c.fits_with.ensures.1 _ table sees.count) ∙ c.if-not-fits_with.false)
          c.if-c-row.false _ _ (spot_is _ _ _ _ _ _ _ c.room_of.ensures
          c.spot_with.ensures table _ (λ l h. sees.block (omega arith))) c.judged.ensures,
    )
