-- `exports::parts::tambuyeel_length` meets its contract. Assumes nothing.
use mathlib.Core.Path.{ap, ◌∙◌}
use Rattle.exports.specs.Parts.{number_told}
use borrow.Author.Rules.{rules}
use Rattle.exports.proofs.parts.tambuyeel_length.Goals as goal

pub returns : goal.returns
returns c = c.told_number.ensures ∙ ap number_told (rw c.column_of.ensures at c.length.ensures)
