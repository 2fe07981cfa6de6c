-- `builder_exports::tambuyeel_finish` meets its contract. Assumes nothing.
use Rattle.builder.specs.Finish.{finish_column}
use Rattle.builder_exports.proofs.NumberLaws.{exported, column-left}
use Rattle.builder_exports.proofs.tambuyeel_finish.Goals as goal

pub returns : goal.returns
unfolding finish_column
returns c = (
  exported _ _ _ _ _ _ _ _ _ _ _ _ _ _ _ _ _ c.state_of-s.ensures c.finish-a.ensures.0 _ _ c.tell.ensures.0 c.tell.ensures.1,
  rw
      c.state_of-s.ensures at (column-left _ _ _ _ _ _ _ _ _ _ _ _ _ _ _ _ _ c.state_of-s.ensures c.finish-a.ensures.0 _ _ _ _ _
      c.finish-a.ensures.1 c.hand.ensures),
)
