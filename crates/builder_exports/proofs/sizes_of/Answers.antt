use Rattle.builder_exports.proofs.NumberLaws.{sizes-zero, sizes-other}
use native.Mathlib.Omega.{arith}
use Rattle.builder_exports.proofs.sizes_of.Goals as goal

pub returns-in-0 : goal.returns-in-0
returns-in-0 c = sizes-zero _ _ c.in-0.is

pub returns-in_default : goal.returns-in_default
returns-in_default c = sizes-other _ c.args.n (omega arith)
