-- `exports::parts::tambuyeel_null_bit` meets its contract. Assumes nothing.
use mathlib.Core.Path.{ap, ◌∙◌}
use Rattle.exports.specs.Parts.{bit_told}
use borrow.Author.Rules.{rules}
use Rattle.exports.proofs.parts.tambuyeel_null_bit.Goals as goal

pub returns : goal.returns
returns c = c.told_bit.ensures ∙ ap bit_told (rw c.column_of.ensures at c.null_bit.ensures)
