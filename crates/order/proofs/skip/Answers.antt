use Rattle.order.proofs.Laws.{agree-next}
use native.Mathlib.Omega.{arith}
use Rattle.order.proofs.skip.Goals as goal

pub loop-i-preserved : goal.loop-i-preserved
loop-i-preserved c =
    let l = c.loop-i in
    (omega arith, agree-next c.args.a.now c.args.b.now l.i c.args.m l.invariant.1 (c.same_run.ensures.0 c.if-same_run.true))
