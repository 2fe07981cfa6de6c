-- `numbers::kind_of` meets its contract. Assumes nothing.
use Rattle.std.proofs.Common.{arith}
use Rattle.numbers.specs.Laws.{kind-zero, kind-other}
use Rattle.numbers.proofs.kind_of.Goals as goal

pub returns-in-0 : goal.returns-in-0
returns-in-0 c = kind-zero _ c.in-0.is

pub returns-in_default : goal.returns-in_default
returns-in_default c = kind-other _ (λ e. omega arith)
