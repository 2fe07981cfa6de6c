-- `views::view_block` meets its contract. Assumes nothing.
use mathlib.Core.Path.{sym, ◌∙◌}
use Rattle.views.specs.ViewLaws.{block_at}
use Rattle.views.proofs.view_block.Goals as goal

pub returns : goal.returns
returns c = (c.le32.ensures.0 ∙ sym (block_at _ _), c.le32.ensures.1)
