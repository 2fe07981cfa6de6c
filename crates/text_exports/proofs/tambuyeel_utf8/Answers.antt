-- `text_exports::tambuyeel_utf8` meets its contract. Assumes nothing.
use Rattle.text_exports.proofs.Laws.{told-is}
use Rattle.text_exports.proofs.tambuyeel_utf8.Goals as goal

pub returns : goal.returns
returns c = told-is c.args.x.now _ _ c.first_bad-place.ensures c.from.ensures
