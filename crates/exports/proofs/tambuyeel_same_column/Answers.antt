-- `exports::tambuyeel_same_column` meets its contract. Assumes nothing.
use mathlib.Core.Path.{ap, ◌∙◌}
use borrow.Author.Rules.{rules}
use Rattle.exports.specs.Exported.{same_told}
use Rattle.exports.proofs.tambuyeel_same_column.Goals as goal

pub returns : goal.returns
returns c = c.told_same.ensures ∙ ap same_told (rw (c.column_of-c.ensures, c.column_of-d.ensures) at
    c.same_column.ensures)
