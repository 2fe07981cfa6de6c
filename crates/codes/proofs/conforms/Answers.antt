-- `codes::conforms` meets its contract. Assumes nothing.
use Rattle.std.proofs.Common.{arith}
use Rattle.codes.proofs.Laws.{code-short, code-long, code-parted}
use Rattle.codes.proofs.conforms.Goals as goal

pub returns-then-n-lt9 : goal.returns-then-n-lt9
returns-then-n-lt9 c = code-parted _ _ (omega arith) (omega arith) c.is_parted.ensures

pub returns-else-n-lt9 : goal.returns-else-n-lt9
returns-else-n-lt9 c = code-parted _ _ (omega arith) (omega arith) c.is_parted_long.ensures

pub returns-in_default : goal.returns-in_default
returns-in_default c = code-short _ (omega arith)

pub returns-in_default-2 : goal.returns-in_default-2
returns-in_default-2 c = code-long _ (omega arith)
