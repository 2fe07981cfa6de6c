use Rattle.builder.specs.RoomLaws.{fits_gives}
use Rattle.finishing.specs.EndLaws.{does-refused, does-copied}
use Rattle.bounds.specs.Bounds.{block-limit-small}
use mathlib.Core.Path.{sym, ◌∙◌}
use native.Mathlib.Omega.{arith}
use Rattle.finishing.proofs.finish_copy.Goals as goal

pub returns-then-not-fits_lent : goal.returns-then-not-fits_lent
returns-then-not-fits_lent c = does-refused _ _ _ _ _ _ _ _ _ _ (sym c.fits_lent.ensures ∙ c.if-not-fits_lent.true)
    c.refused.ensures.0 c.refused.ensures.1

pub put_record-requires : goal.put_record-requires
put_record-requires c =
    let f = fits_gives _ _ _ _ _ _ _
    (sym c.fits_lent.ensures ∙ c.if-not-fits_lent.false) in
    (f.starts, f.lens)

pub column_of-requires : goal.column_of-requires
column_of-requires c =
    let f = fits_gives _ _ _ _ _ _ _
    (sym c.fits_lent.ensures ∙ c.if-not-fits_lent.false) in
    omega (arith, f.blocks, block-limit-small)

pub returns : goal.returns
returns c =
    let f = fits_gives _ _ _ _ _ _ _
    (sym c.fits_lent.ensures ∙ c.if-not-fits_lent.false) in
    does-copied _ _ _ _ _ _ _
    (sym c.fits_lent.ensures ∙ c.if-not-fits_lent.false) f.starts f.lens c.put_record.ensures.0 c.put_record.ensures.1 _
    c.column_of.ensures
