use mathlib.Core.Path.{refl, sym, ◌∙◌}
use Rattle.bounds.specs.Bounds.{block-limit-small}
use Rattle.filing.specs.FilesLaws.{fitted}
use Rattle.filing.proofs.EndLaws.{ended-no, ended-copied}
use lib.ListN.{length}
use native.Mathlib.Omega.{arith}
use Rattle.filing.proofs.finish_copy.Goals as goal

pub returns-then-not-fits_with : goal.returns-then-not-fits_with
returns-then-not-fits_with c =
    ended-no c.args.s c.args.views.now c.args.bytes.now c.args.nulls.now c.args.places.now (length c.args.table.now) _ _ _
    (sym c.fits_with.ensures ∙ c.if-not-fits_with.true) c.refused.ensures.0 c.refused.ensures.1 _ refl

pub column_of-requires : goal.column_of-requires
column_of-requires c =
    let f = fitted c.args.s c.args.views.now c.args.bytes.now c.args.nulls.now c.args.places.now (length c.args.table.now)
    (sym c.fits_with.ensures ∙ c.if-not-fits_with.false) in omega (arith, f.blocks, block-limit-small)

pub returns : goal.returns
returns c =
    ended-copied c.args.s c.args.views.now c.args.bytes.now c.args.nulls.now c.args.places.now (length c.args.table.now)
    (sym c.fits_with.ensures ∙ c.if-not-fits_with.false) _ c.column_of.ensures _ refl _ c.put_open.ensures
