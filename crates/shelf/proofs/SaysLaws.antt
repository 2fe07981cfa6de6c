-- What a line says, test by test. Assumes nothing.
use Rattle.std.specs.Prelude.{◌≡◌, true, false, List, ℕ, ◌<◌, length, take}
use Rattle.std.proofs.Common.{ap, arith, length-take}
use Rattle.basis.specs.Pick.{pick}
use Rattle.shelf.specs.Lines.{code_mark, null_mark, says}
use Rattle.shelf.specs.declared.Line.TheVariants.{Code, Null, Bad}
use Rattle.order.specs.Order.{same}
use Rattle.order.proofs.OrderLaws.{same-no}

module _ (l : List ℕ) where
  pub says-short : length l < 5 → Bad ≡ says l
  unfolding says
  says-short h =
      let a : same (take 5 l) code_mark ≡ false = same-no (take 5 l) code_mark (λ e. let k = ap length e in absurd (omega (arith, simp length-take at k))) in
      let b : same l null_mark ≡ false = same-no l null_mark (λ e. let k = ap length e in absurd (omega arith)) in
      rw (a, b)

  pub says-code : same (take 5 l) code_mark ≡ true → Code ≡ says l
  unfolding says
  says-code h = rw h

  pub says-null : same (take 5 l) code_mark ≡ false → same l null_mark ≡ true → Null ≡ says l
  unfolding says
  says-null h g = rw (h, g)

  pub says-bad : same (take 5 l) code_mark ≡ false → same l null_mark ≡ false → Bad ≡ says l
  unfolding says
  says-bad h g = rw (h, g)
