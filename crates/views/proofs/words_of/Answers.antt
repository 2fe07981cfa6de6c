-- `views::words_of` meets its contract. Assumes nothing.
use lib.ListN.{length}
use Prim.Native.Nat.{◌+◌, ◌*◌, ◌-◌}
use lib.Pow.{shr_le}
use Rattle.views.proofs.Laws.{rest-none, rest-is}
use native.Mathlib.Omega.{arith}
use Rattle.views.proofs.words_of.Goals as goal

pub returns-then-n-lt4 : goal.returns-then-n-lt4
returns-then-n-lt4 c = (omega arith, rest-none c.args.v.now (omega arith))

pub overflow_mul-result-3 : goal.overflow_mul-result-3
overflow_mul-result-3 c =
    let k = c.least-k.result in
    let n = length c.args.v.now in
    omega (arith, shr_le c.le32-2.result (8 * (8 + k - n)), shr_le c.le32.result (8 * (4 - k)))

pub overflow_add-result-3 : goal.overflow_add-result-3
overflow_add-result-3 c =
    let k = c.least-k.result in
    let n = length c.args.v.now in
    omega (arith, shr_le c.le32-2.result (8 * (8 + k - n)), shr_le c.le32.result (8 * (4 - k)))

pub returns : goal.returns
returns c = (
  omega arith,
  rw (c.le32.ensures.0, c.le32-2.ensures.0)
      (rest-is c.args.v.now c.least-k.result
      (λ j. (c.type_inv.v j).fits) (omega arith) (omega arith)
      c.least-k.ensures),
)
