-- `exports::tambuyeel_compare` meets its contract. Assumes nothing.
use mathlib.Core.Path.{ap, ◌∙◌}
use borrow.Author.Rules.{rules}
use Rattle.exports.specs.Exported.{compared_number}
use Rattle.exports.proofs.tambuyeel_compare.Goals as goal

pub returns : goal.returns
returns c = c.compared_number.ensures
    ∙ ap compared_number (rw (c.column_of-c.ensures, c.column_of-d.ensures) at c.compare.ensures)
