-- `mark_exports::tambuyeel_mark` meets its contract. Assumes nothing.
use mathlib.Core.Path.{ap, ◌∙◌}
use Rattle.mark_exports.specs.MarksTold.{mark_told}
use borrow.Author.Rules.{rules}
use Rattle.mark_exports.proofs.tambuyeel_mark.Goals as goal

pub returns : goal.returns
returns c = c.told_mark.ensures ∙ ap mark_told (rw c.column_of.ensures at c.mark_at.ensures)
