-- `comparison::view_of` meets its contract. Assumes nothing.
use Rattle.comparison.specs.VerdictLaws.{view-part}
use Rattle.comparison.proofs.view_of.Goals as goal

pub returns : goal.returns
returns c = λ h. view-part _ _
