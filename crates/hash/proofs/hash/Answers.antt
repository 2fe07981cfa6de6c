use Rattle.std.proofs.Common.{◌≡◌, ◌-◌, ◌*◌, ◌/◌, length, refl, ◌∙◌, add-one, arith, ltb}
use Rattle.basis.specs.Pick.{pick}
use Rattle.words.specs.Words.{word_at}
use Rattle.hash.specs.Hash.{mixed, lane_a, lane_b, key_b}
use Rattle.hash.proofs.Laws.{more-word, no_word, close}
use Rattle.hash.proofs.hash.Goals as goal
use Rattle.hash.proofs.hash.Goals.{then-n-i-gt8, else-n-i-gt8}

pub loop-k-init : goal.loop-k-init
unfolding lane_a lane_b
loop-k-init c = (refl, refl)

pub loop-k-preserved : goal.loop-k-preserved
unfolding lane_a lane_b
loop-k-preserved c =
    let l = c.loop-k in
    rw (add-one l.k) (c.mix-h.ensures ∙ rw (l.invariant.0, c.le64.ensures), c.mix-g.ensures ∙ rw (l.invariant.1, c.le64-in-loop-k.ensures))

pub returns : goal.returns
returns c =
    let s = c.args.s.now in
    let l = c.loop-k in
    let e : l.k ≡ (length s - 1) / 16 = omega arith in
    let a = rw e at l.invariant.0 in
    let b = rw e at l.invariant.1 in
    let last : c.if-n-i-gt8.g ≡ pick (ltb 8 (length s - 16 * ((length s - 1) / 16))) (mixed (lane_b s ((length s - 1) / 16)) (word_at s (16 * ((length s - 1) / 16)) 8) key_b) (lane_b s ((length s - 1) / 16)) = elim c.if-n-i-gt8.branch [
      | then-n-i-gt8 w ↦ more-word s ((length s - 1) / 16) _ _ _ _ w.if-n-i-gt8.true b w.le64-then-n-i-gt8.ensures w.mix-g-then-n-i-gt8.ensures w.g-is
      | else-n-i-gt8 w ↦ no_word s ((length s - 1) / 16) _ _ w.if-n-i-gt8.false b w.g-is
    ] in
    close s ((length s - 1) / 16) _ _ _ _ _ refl a last c.le64-2.ensures c.mix-h-2.ensures c.mix-h-3.ensures
