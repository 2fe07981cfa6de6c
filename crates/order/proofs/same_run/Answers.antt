use Rattle.order.proofs.Laws.{block_more_lem, block_same}
use Rattle.order.proofs.same_run.Goals as goal

pub loop-k-preserved : goal.loop-k-preserved
loop-k-preserved c =
    let s = c.args in
    let l = c.loop-k in
    (block_more_lem s.a.now s.b.now s.i l.k l.d l.invariant.0, block_same s.a.now s.b.now s.i l.k l.d l.invariant.1)
