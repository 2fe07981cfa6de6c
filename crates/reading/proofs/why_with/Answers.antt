-- `reading::why_with` meets its contract. Assumes nothing.
use mathlib.Core.Path.{◌∙◌}
use Rattle.reading.proofs.LocatedLaws.{located-why}
use Rattle.reading.proofs.why_with.Goals as goal

pub returns : goal.returns
returns c = λ table sees. c.why_of.ensures ∙ located-why _ _ _ _ (c.locate_with.ensures.1 table sees)
