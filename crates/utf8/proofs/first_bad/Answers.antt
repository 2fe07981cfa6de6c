-- `utf8::first_bad` meets its contract. Assumes nothing.
use Rattle.utf8.proofs.First.{first_walk}
use Rattle.utf8.proofs.Laws.{bad-step, bad-here, bad-end}
use mathlib.Core.Path.{sym}
use native.Mathlib.Omega.{arith}
use Rattle.utf8.proofs.first_bad.Goals as goal

pub returns-in_default : goal.returns-in_default
returns-in_default c =
    let s = c.args in
    let l = c.loop-i in
    omega (arith, first_walk s.s.now, bad-here s.s.now l.i (omega arith) (sym c.in_default.ensures))

pub loop-i-preserved : goal.loop-i-preserved
loop-i-preserved c =
    let s = c.args in
    let l = c.loop-i in
    let n = c.in-Some.ensures in
    (omega (arith, n.2), omega (arith, bad-step s.s.now l.i _ (omega arith) n.0 (omega (arith, n.1)) (omega (arith, n.2))))

pub returns : goal.returns
returns c =
    let s = c.args in
    let l = c.loop-i in
    omega (arith, first_walk s.s.now, bad-end s.s.now l.i (omega arith))
