-- `reading::prefix` meets its contract. Assumes nothing.
use native.Mathlib.Omega.{arith}
use Rattle.reading.proofs.ReadingLaws.{prefix-no, prefix-yes}
use Rattle.reading.specs.Reading.{prefix_at}
use Rattle.reading.proofs.prefix.Goals as goal

pub returns-then-v-n : goal.returns-then-v-n
unfolding prefix_at
returns-then-v-n c = (rw (← c.value-v.ensures.0) (prefix-no _ _ (omega arith)), c.value-v.ensures.1)

pub returns-else-v-n : goal.returns-else-v-n
unfolding prefix_at
returns-else-v-n c = (rw (← c.value-v.ensures.0) (prefix-yes _ _ (omega arith)), c.value-v.ensures.1)
