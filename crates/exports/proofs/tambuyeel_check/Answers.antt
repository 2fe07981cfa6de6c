-- `exports::tambuyeel_check` meets its contract. Assumes nothing.
use mathlib.Core.Path.{ap, ◌∙◌}
use borrow.Author.Rules.{rules}
use Rattle.numbers.specs.Numbers.{why_told}
use Rattle.exports.proofs.tambuyeel_check.Goals as goal

pub returns : goal.returns
returns c = c.told_why.ensures ∙ ap why_told (rw c.column_of.ensures at c.check.ensures)
