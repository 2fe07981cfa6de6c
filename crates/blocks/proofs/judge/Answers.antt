-- `blocks::judge` meets its contract. Assumes nothing.
use native.Mathlib.Omega.{arith}
use Rattle.blocks.specs.PlacesLaws.{block-answer, row-answer}
use Rattle.blocks.proofs.judge.Goals as goal

pub returns-then-c-k : goal.returns-then-c-k
returns-then-c-k c = λ table p asks e. block-answer _ _ _ _ _ _ p _ asks e _ (omega arith) (omega arith) c.in_data.ensures

pub returns : goal.returns
returns c = λ table p asks e. row-answer _ _ _ _ _ _ p _ asks e _ (omega arith) (omega arith) (omega arith) c.true_with.ensures
