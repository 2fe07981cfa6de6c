-- `column::honest_at` meets its contract. Assumes nothing.
use mathlib.Core.Path.{◌∙◌}
use native.Mathlib.Omega.{arith}
use Rattle.column.proofs.TruthLaws.{honest-short, honest-long}
use Rattle.column.proofs.honest_at.Goals as goal

pub returns-then-len-le-SHORT_MOST : goal.returns-then-len-le-SHORT_MOST
returns-then-len-le-SHORT_MOST c = c.zeros_after.ensures ∙ rw c.requires.1 (honest-short _ _ _ (omega arith))

pub returns-else-len-le-SHORT_MOST : goal.returns-else-len-le-SHORT_MOST
returns-else-len-le-SHORT_MOST c =
    honest-long _ _ _ _ _ c.le32.ensures.0 c.le32-else-len-le-SHORT_MOST.ensures.0 (λ j. (c.type_inv.views j).fits)
    (λ j. (c.type_inv.value j).fits) (omega arith) (omega arith) (omega arith)
