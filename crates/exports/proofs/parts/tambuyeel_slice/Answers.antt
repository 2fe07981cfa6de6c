-- `exports::parts::tambuyeel_slice` meets its contract. Assumes nothing.
use mathlib.Core.Path.{ap, ◌∙◌}
use Rattle.exports.specs.Parts.{slice_told}
use borrow.Author.Rules.{rules}
use Rattle.exports.proofs.parts.tambuyeel_slice.Goals as goal

pub returns : goal.returns
returns c = c.told_slice.ensures ∙ ap slice_told (rw c.column_of.ensures at c.slice.ensures)
