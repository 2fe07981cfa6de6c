use Rattle.builder_exports.proofs.NumberLaws.{growth-zero, growth-other}
use native.Mathlib.Omega.{arith}
use Rattle.builder_exports.proofs.growth_of.Goals as goal

pub returns-in-0 : goal.returns-in-0
returns-in-0 c = growth-zero _ _ c.in-0.is

pub returns-in_default : goal.returns-in_default
returns-in_default c = growth-other _ _ (omega arith)
