-- `reading::why_value` meets its contract. Assumes nothing.
use mathlib.Core.Path.{◌∙◌}
use Rattle.reading.proofs.LocatedLaws.{located-why}
use Rattle.reading.proofs.why_value.Goals as goal

pub returns : goal.returns
returns c = c.why_of.ensures ∙ located-why _ _ _ _ c.locate.ensures
