-- `views::view_offset` meets its contract. Assumes nothing.
use mathlib.Core.Path.{sym, ◌∙◌}
use Rattle.views.specs.ViewLaws.{offset_at_lem}
use Rattle.views.proofs.view_offset.Goals as goal

pub returns : goal.returns
returns c = (c.le32.ensures.0 ∙ sym (offset_at_lem _ _), c.le32.ensures.1)
