use Rattle.std.proofs.Common.{rules, arith}
use Rattle.shelf.specs.Items.{part_end}
use Rattle.shelf.proofs.part_end.Goals as goal

pub returns-clause-value : goal.returns-clause-value
unfolding part_end
returns-clause-value c = omega arith
