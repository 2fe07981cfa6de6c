-- `exports::tambuyeel_why_value` meets its contract. Assumes nothing.
use mathlib.Core.Path.{ap, ◌∙◌}
use borrow.Author.Rules.{rules}
use Rattle.bounds.specs.Refusals.{why_number}
use Rattle.exports.proofs.tambuyeel_why_value.Goals as goal

pub returns : goal.returns
returns c = c.why_number.ensures ∙ ap why_number (rw c.column_of.ensures at c.why_value.ensures)
