use lib.Count.{ones-le}
use mathlib.Core.Path.{◌≡◌, refl}
use Prim.Native.Nat.{◌*◌}
use native.Mathlib.Omega.{arith}
use Rattle.null_bits.specs.Bits.{count_valid}
use Rattle.null_bits.proofs.CountLaws.{count-le, count-is}
use Rattle.null_bits.proofs.Laws.{count-more-word}
use Rattle.null_bits.proofs.count_words.Goals as goal

pub loop-k-init : goal.loop-k-init
unfolding count_valid
loop-k-init c = refl

pub overflow_add-n : goal.overflow_add-n
overflow_add-n c =
    let a = c.args in
    omega (arith, ones-le 64 _ c.le64.type_inv, count-le a.map.now (8 * a.i) (64 * c.loop-k.k))

pub loop-k-preserved : goal.loop-k-preserved
loop-k-preserved c =
    let a = c.args in
    rw (c.loop-k.invariant, c.le64.ensures) (count-more-word a.map.now a.i c.loop-k.k (λ j. (c.type_inv.map j).fits))

pub returns : goal.returns
returns c =
    let e : c.loop-k.k ≡ c.args.words = omega arith in
    count-is _ _ _ _ (rw (← e) c.loop-k.invariant)
