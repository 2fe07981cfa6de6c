use Rattle.basis.specs.Pick.{le_yes, le-no}
use Rattle.leaf_exports.specs.Batches.{summed, nulls_batch}
use Rattle.leaf_exports.proofs.Laws.{summed-more}
use Rattle.std.proofs.Common.{◌≡◌, refl, arith}
use Rattle.leaf_exports.proofs.leaf_count_nulls.Goals as goal

pub returns-then-bytes-lt9 : goal.returns-then-bytes-lt9
unfolding nulls_batch
returns-then-bytes-lt9 c = le-no _ _ _ _ 0 (omega arith) refl

pub returns-then-bytes-rows : goal.returns-then-bytes-rows
unfolding nulls_batch
returns-then-bytes-rows c = le-no _ _ _ _ 0 (omega arith) refl

pub loop-k-init : goal.loop-k-init
unfolding summed
loop-k-init c = (omega arith, refl)

pub loop-k-preserved : goal.loop-k-preserved
loop-k-preserved c = (c.loop-k.invariant.0, summed-more _ _ _ _ _ c.loop-k.invariant.1 c.count_nulls-n.ensures refl)

pub returns : goal.returns
unfolding nulls_batch
returns c =
    let l = c.loop-k in
    let e : l.k ≡ c.args.times = omega arith in
    le_yes _ _ _ _ _ l.invariant.0 (rw (← e) l.invariant.1)
