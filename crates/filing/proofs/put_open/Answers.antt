use Rattle.filing.specs.FilesLaws.{open_same, open-some}
use mathlib.Core.Path.{◌∙◌}
use Rattle.filing.proofs.put_open.Goals as goal

pub returns-then-s-ne0 : goal.returns-then-s-ne0
returns-then-s-ne0 c = c.put_or.ensures ∙ open-some _ _ c.if-s-ne0.true

pub returns-else-s-ne0 : goal.returns-else-s-ne0
returns-else-s-ne0 c = open_same _ _ c.if-s-ne0.false
