-- `blocks::stop_at` meets its contract. The invariant: all places passed hold. Assumes nothing.
use Rattle.std.proofs.Common.{add-one, arith}
use Rattle.blocks.specs.PlacesLaws.{passed_none, passed-more, found}
use Rattle.blocks.proofs.stop_at.Goals as goal

pub loop-k-init : goal.loop-k-init
loop-k-init c = passed_none _ _ _ _ _

pub loop-k-preserved : goal.loop-k-preserved
loop-k-preserved c = rw (add-one c.loop-k.k) (passed-more _ _ _ _ _ _ _ c.loop-k.invariant c.holds.ensures c.if-not-holds.false)

pub returns-then-not-holds : goal.returns-then-not-holds
returns-then-not-holds c = found _ _ _ _ _ _ _ c.loop-k.invariant c.holds.ensures c.if-not-holds.true

pub returns : goal.returns
returns c =
    record {
      most = omega arith;
      passed = λ nulls room j h. c.loop-k.invariant.1 nulls room j (omega arith);
      stops = λ nulls room h. absurd (omega arith);
    }
