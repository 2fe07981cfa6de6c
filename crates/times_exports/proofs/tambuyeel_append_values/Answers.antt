-- `times_exports::tambuyeel_append_values` meets its contract. Assumes nothing.
use borrow.Author.Rules.{rules}
use Rattle.times_exports.proofs.tambuyeel_append_values.Goals as goal

pub returns : goal.returns
returns c = c.tambuyeel_append_values.ensures
