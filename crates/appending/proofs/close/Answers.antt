use Rattle.builder.specs.State.{closed}
use Rattle.appending.proofs.close.Goals as goal

pub returns : goal.returns
unfolding closed
returns c = rw c.all_blocks.ensures
