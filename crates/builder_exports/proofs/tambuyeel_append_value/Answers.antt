-- `builder_exports::tambuyeel_append_value` meets its contract. Assumes nothing.
use Rattle.builder_exports.proofs.NumberLaws.{exported}
use Rattle.builder_exports.proofs.tambuyeel_append_value.Goals as goal

pub returns : goal.returns
returns c =
    exported _ _ _ _ _ _ _ _ _ _ _ _ _ _ _ _ _ c.state_of-s.ensures c.append_value-a.ensures _ _ c.tell.ensures.0 c.tell.ensures.1
