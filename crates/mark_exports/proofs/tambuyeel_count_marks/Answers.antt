-- `mark_exports::tambuyeel_count_marks` meets its contract. Assumes nothing.
use mathlib.Core.Path.{ap, ◌∙◌}
use Rattle.mark_exports.specs.MarksTold.{marks_told}
use borrow.Author.Rules.{rules}
use Rattle.mark_exports.proofs.tambuyeel_count_marks.Goals as goal

pub returns : goal.returns
returns c = c.told_marks.ensures ∙ ap marks_told (rw c.column_of.ensures at c.count_marks.ensures)
