-- `reading::judged` meets its contract. Assumes nothing.
use mathlib.Core.Path.{sym, ◌∙◌}
use Rattle.reading.proofs.LocatedLaws.{judged-yes, judged-no}
use Rattle.reading.proofs.judged.Goals as goal

pub returns-then-is_reached : goal.returns-then-is_reached
returns-then-is_reached c = judged-yes _ _ (sym c.is_reached.ensures ∙ c.if-is_reached.true)

pub returns-else-is_reached : goal.returns-else-is_reached
returns-else-is_reached c = judged-no _ _ (sym c.is_reached.ensures ∙ c.if-is_reached.false)
