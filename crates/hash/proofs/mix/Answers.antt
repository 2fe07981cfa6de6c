use Rattle.hash.specs.Hash.{rotl, mixed}
use Rattle.hash.proofs.mix.Goals as goal

pub returns : goal.returns
unfolding mixed rotl
returns c = rw c.rotate_left.ensures
