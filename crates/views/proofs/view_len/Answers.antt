-- `views::view_len` meets its contract. Assumes nothing.
use mathlib.Core.Path.{sym, ◌∙◌}
use Rattle.views.specs.ViewLaws.{length_at}
use Rattle.views.proofs.view_len.Goals as goal

pub returns : goal.returns
returns c = (c.le32.ensures.0 ∙ sym (length_at _ _), c.le32.ensures.1)
