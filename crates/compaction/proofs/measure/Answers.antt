use Rattle.std.proofs.Common.{◌≡◌, ℕ, true, sym, ◌∙◌, arith, below_more}
use Rattle.bounds.specs.Bounds.{row-limit-small}
use Rattle.column.specs.Room.{bare_of}
use Rattle.column.specs.Truth.{true_at}
use Rattle.column.proofs.LowestLaws.{lowest-bad}
use Rattle.compaction.proofs.CutLaws.{stand-start, stand-none, stand-next, next_grows}
use Rattle.compaction.proofs.measure.Goals as goal

pub loop-k-init : goal.loop-k-init
loop-k-init c =
    let e = stand-start c.default-s.result c.default-s.ensures in
    record { truth = λ r h. absurd (omega arith); stand = rw e (stand-none _ _); bytes = omega arith; blocks = omega arith }

pub returns-then-not-is_true_at : goal.returns-then-not-is_true_at
returns-then-not-is_true_at c =
    λ w. lowest-bad _ _ _ w (omega arith) c.loop-k.invariant.truth (sym c.is_true_at.ensures ∙ c.if-not-is_true_at.true)

pub step-s-requires : goal.step-s-requires
step-s-requires c = record { bytes = omega (arith, row-limit-small); blocks = omega (arith, row-limit-small) }

pub loop-k-preserved : goal.loop-k-preserved
loop-k-preserved c =
    let a = c.args in
    let l = c.loop-k in
    let g = next_grows _ _ _ _ c.step-s.ensures in
    record {
      truth = below_more (λ (r : ℕ). true_at a.c.kind (bare_of a.l) a.c r ≡ true) _ l.invariant.truth
          (sym c.is_true_at.ensures ∙ c.if-not-is_true_at.false);
      stand = stand-next _ _ _ _ _ _ c.view_len.ensures.0 l.invariant.stand c.step-s.ensures;
      bytes = omega (arith, c.view_len.ensures);
      blocks = omega arith;
    }

pub returns : goal.returns
returns c =
    let i = c.loop-k.invariant in
    let q : c.loop-k.k ≡ c.args.c.rows = omega arith in
    record { truth = λ r h. i.truth r (omega arith); stand = rw (← q) i.stand; small = record { bytes = omega (arith, row-limit-small); blocks = omega (arith, row-limit-small) } }
