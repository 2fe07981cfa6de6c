-- `batches::spot_of` meets its contract. Assumes nothing.
use Rattle.std.proofs.Common.{◌∙◌, arith}
use Rattle.bounds.specs.Bounds.{row-limit-small}
use Rattle.column.proofs.FitLaws.{fits_gives, fits-row}
use Rattle.column.proofs.ReachLaws.{spot-bare}
use Rattle.batches.proofs.spot_of.Goals as goal

pub overflow_add-c : goal.overflow_add-c
overflow_add-c c =
    let p = c.requires in
    let g = fits_gives _ _ _ _ _ _ p.0 in omega (arith, row-limit-small)

pub spot_knowing-requires : goal.spot_knowing-requires
spot_knowing-requires c =
    let p = c.requires in
    (fits-row _ _ _ _ _ _ _ p.0 p.1, p.2)

pub returns : goal.returns
returns c = c.spot_knowing.ensures ∙ spot-bare _ _ _ _ _ _ _ _
