-- `batches::taste` meets its contract. Assumes nothing.
use Rattle.std.proofs.Common.{refl, arith}
use Rattle.batches.proofs.Laws.{taste-none, taste-is}
use Rattle.batches.proofs.taste.Goals as goal

pub returns-in-empty : goal.returns-in-empty
returns-in-empty c = taste-none _ (omega arith)

pub returns-in-len1-up : goal.returns-in-len1-up
returns-in-len1-up c = taste-is _ _ _ c.from.ensures refl
