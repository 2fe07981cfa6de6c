use Rattle.leaf_exports.specs.Batches.{summed, pairs_batch}
use Rattle.leaf_exports.proofs.Laws.{summed-more}
use Rattle.std.proofs.Common.{◌≡◌, ◌-◌, length, refl, arith}
use Rattle.leaf_exports.proofs.leaf_count_pairs.Goals as goal

pub loop-k-init : goal.loop-k-init
unfolding summed
loop-k-init c = refl

pub loop-k-preserved : goal.loop-k-preserved
loop-k-preserved c = summed-more _ _ _ _ _ c.loop-k.invariant c.pair_in-x.ensures refl

pub returns : goal.returns
unfolding pairs_batch
returns c =
    let l = c.loop-k in
    let e : l.k ≡ length c.args.ends.now - 2 = omega arith in
    rw (← e) l.invariant
