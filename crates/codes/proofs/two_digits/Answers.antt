-- `codes::two_digits` meets its contract. Assumes nothing.
use Rattle.codes.specs.Grammar.{number_after}
use native.Mathlib.Omega.{arith}
use Rattle.codes.proofs.two_digits.Goals as goal

pub returns : goal.returns
unfolding number_after
returns c = omega arith
