-- `views::front` meets its contract. Assumes nothing.
use lib.Pow.{pow_pos}
use Prim.Native.Nat.{ℕ, ◌*◌, ◌%◌, ◌^◌}
use mathlib.Core.Path.{ap, ◌∙◌}
use native.Mathlib.Omega.{arith}
use Rattle.views.proofs.PartLaws.{one_shifted, front-lt}
use Rattle.views.proofs.front.Goals as goal

pub nonzero_rem-result : goal.nonzero_rem-result
nonzero_rem-result c = rw (one_shifted (8 * c.least-bits.result) (omega arith)) (pow_pos (8 * c.least-bits.result))

pub returns : goal.returns
returns c =
    let r = c.least-bits.result in
    let f = c.args.f in (
      ap (λ (z : ℕ). f % z) (one_shifted (8 * r) (omega arith) ∙ ap (λ (z : ℕ). 2 ^ (8 * z)) c.least-bits.ensures),
      front-lt f (8 * r) (omega arith)
          (omega arith),
    )
