-- `builder_exports::tambuyeel_start` meets its contract. Assumes nothing.
use Rattle.builder_exports.proofs.NumberLaws.{start_left}
use Rattle.builder_exports.proofs.tambuyeel_start.Goals as goal

pub returns : goal.returns
returns c =
    let g = rw c.settings_of.ensures at (start_left _ _ _ _ _ c.start-a.ensures.0 c.tell.ensures.0
    c.tell.ensures.1) in (g.0, g.1, rw c.settings_of.ensures at c.start-a.ensures.1)
