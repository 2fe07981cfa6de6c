use Rattle.growth.specs.Growing.{start_size}
use Rattle.finishing.proofs.growth_of.Goals as goal

pub returns-in-Doubled : goal.returns-in-Doubled
unfolding start_size
returns-in-Doubled c = rw c.in-Doubled.is
