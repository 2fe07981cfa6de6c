-- `views::few` meets its contract. Assumes nothing.
use Rattle.views.proofs.Laws.{few-is, gone}
use native.Mathlib.Omega.{arith}
use borrow.Author.Rules.{rules}
use Rattle.views.proofs.few.Goals as goal

pub returns-then-n-eq0 : goal.returns-then-n-eq0
returns-then-n-eq0 c =
    let v = c.args.v.now in
    (few-is v _ (omega (arith, gone v 0 (omega arith), gone v 1 (omega arith), gone v 2 (omega arith))) (omega arith), search rules)

pub returns-then-n-eq1 : goal.returns-then-n-eq1
returns-then-n-eq1 c =
    let v = c.args.v.now in
    (few-is v _ (omega (arith, gone v 1 (omega arith), gone v 2 (omega arith))) (omega arith), search rules)

pub returns-then-n-eq2 : goal.returns-then-n-eq2
returns-then-n-eq2 c =
    let v = c.args.v.now in
    (few-is v _ (omega (arith, gone v 2 (omega arith))) (omega arith), search rules)

pub returns : goal.returns
returns c =
    let v = c.args.v.now in
    (few-is v _ (omega (arith)) (omega arith), search rules)
