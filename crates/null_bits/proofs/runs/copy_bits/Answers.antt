use mathlib.Core.Path.{◌≡◌, ap, refl, ◌∙◌}
use native.Mathlib.Nat.{add_assoc}
use native.Mathlib.Omega.{arith}
use Prim.Native.Nat.{◌+◌, ◌*◌, ◌/◌}
use Rattle.null_bits.specs.Bits.{is_valid}
use Rattle.null_bits.specs.Runs.{put_bits}
use Rattle.null_bits.proofs.ByteLaws.{next-byte, run-rest}
use Rattle.null_bits.proofs.runs.copy_bits.Goals as goal

pub loop-k-init : goal.loop-k-init
unfolding put_bits
loop-k-init c = refl

pub loop-k-preserved : goal.loop-k-preserved
loop-k-preserved c =
    let s = c.args in
    let l = c.loop-k in
    let e : 8 * l.k + 8 ≡ 8 * (l.k + 1) = omega arith in
    rw (← e)
    (next-byte s.map.now l.map _ s.first (8 * l.k) _ (λ j. is_valid s.src.now (s.from + j)) l.invariant c.put_byte.ensures
    (λ j h. c.byte_at.ensures.1 j h ∙ ap (is_valid s.src.now) (add_assoc s.from (8 * l.k) j)))

pub returns : goal.returns
returns c =
    let s = c.args in
    let l = c.loop-k in
    let done = s.rows / 8 * 8 in
    let e : 8 * l.k ≡ done = omega arith in
    run-rest s.map.now l.map _ s.first done s.rows (λ j. is_valid s.src.now (s.from + j)) (λ j. is_valid s.src.now
    (s.from + done + j)) (omega arith) (rw e at l.invariant) c.copy_few.ensures
    (λ j. ap (is_valid s.src.now) (add_assoc s.from done j))
