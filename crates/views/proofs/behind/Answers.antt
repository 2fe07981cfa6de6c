-- `views::behind` meets its contract. Assumes nothing.
use native.Mathlib.Omega.{arith}
use Rattle.views.proofs.PartLaws.{none-behind, some-behind}
use Rattle.views.proofs.behind.Goals as goal

pub returns-then-n-le4 : goal.returns-then-n-le4
returns-then-n-le4 c = none-behind c.args.m c.args.n c.if-n-le4.true

pub returns : goal.returns
returns c = some-behind c.args.m c.args.n (omega arith) (omega arith)
