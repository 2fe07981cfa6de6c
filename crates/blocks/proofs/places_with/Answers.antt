-- `blocks::places_with` meets its contract. Assumes nothing.
use mathlib.Core.Path.{sym, ◌∙◌}
use native.Mathlib.Omega.{arith}
use Rattle.bounds.specs.Bounds.{block-limit-is}
use Rattle.column.proofs.FitLaws.{over-blocks}
use Rattle.blocks.specs.PlacesLaws.{never-by}
use Rattle.blocks.proofs.places_with.Goals as goal
use Rattle.blocks.proofs.places_with.Goals.{then-not-fits_with-via-then-not-fits_with, then-not-fits_with-via-else-not-fits_with+then-c-gt-BLOCK_LIMIT}

pub returns-then-not-fits_with : goal.returns-then-not-fits_with
returns-then-not-fits_with c = record {
  room = λ h. absurd (omega arith);
  all = λ bytes table e fit. elim c.then-not-fits_with.branch [
    | then-not-fits_with-via-then-not-fits_with w ↦ never-by (sym w.if-not-fits_with.true ∙ c.fits_with.ensures.1 bytes table e ∙ fit)
    | then-not-fits_with-via-else-not-fits_with+then-c-gt-BLOCK_LIMIT w ↦
        never-by (over-blocks _ bytes _ table _ (omega (arith, block-limit-is)) ∙ fit)
  ];
}
