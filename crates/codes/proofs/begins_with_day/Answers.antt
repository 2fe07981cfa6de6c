-- `codes::begins_with_day` meets its contract. Assumes nothing.
use Rattle.std.proofs.Common.{arith}
use Rattle.codes.proofs.Laws.{front-none, front-one, front-two, front-zero, front-some}
use Rattle.codes.proofs.begins_with_day.Goals as goal

pub returns-in-1 : goal.returns-in-1
returns-in-1 c = front-one c.args.s.now c.args.d c.requires.0 c.requires.1 c.in-1.is

pub two_digits-n-requires : goal.two_digits-n-requires
two_digits-n-requires c = front-two c.args.s.now c.args.d c.requires.0 c.requires.1 c.in-2.is

pub returns-then-n-ne0 : goal.returns-then-n-ne0
returns-then-n-ne0 c = front-some c.args.s.now c.args.d c.requires.0 c.requires.1 c.in-2.is _ c.two_digits-n.ensures c.if-n-ne0.true

pub returns-else-n-ne0 : goal.returns-else-n-ne0
returns-else-n-ne0 c = rw c.if-n-ne0.false (front-zero c.args.s.now c.args.d c.requires.0 c.requires.1 c.in-2.is _ c.two_digits-n.ensures c.if-n-ne0.false)

pub returns-in_default : goal.returns-in_default
returns-in_default c = front-none c.args.s.now c.args.d c.requires.0 c.requires.1 (λ e. omega arith) (λ e. omega arith)
