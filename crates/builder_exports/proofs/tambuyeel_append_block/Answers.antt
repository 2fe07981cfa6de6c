-- `builder_exports::tambuyeel_append_block` meets its contract. Assumes nothing.
use Rattle.builder_exports.proofs.NumberLaws.{exported}
use borrow.Author.Rules.{rules}
use Rattle.builder_exports.proofs.tambuyeel_append_block.Goals as goal

pub returns : goal.returns
returns c = (
  exported _ _ _ _ _ _ _ _ _ _ _ _ _ _ _ _ _ c.state_of-s.ensures c.append_block-a.ensures.0 _ _ c.tell.ensures.0
      c.tell.ensures.1,
  rw c.state_of-s.ensures at c.append_block-a.ensures.1,
)
