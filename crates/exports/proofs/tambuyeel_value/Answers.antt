-- `exports::tambuyeel_value` meets its contract. Assumes nothing.
use mathlib.Core.Path.{ap, ◌∙◌}
use borrow.Author.Rules.{rules}
use Rattle.exports.specs.Exported.{place_told, place_at}
use Rattle.exports.proofs.tambuyeel_value.Goals as goal

pub returns : goal.returns
unfolding place_at
returns c = rw c.column_of.ensures at (c.told_place.ensures ∙ ap place_told c.locate.ensures)
