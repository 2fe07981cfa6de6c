use Rattle.builder_exports.proofs.NumberLaws.{merging-zero, merging-one, merging-other}
use native.Mathlib.Omega.{arith}
use Rattle.builder_exports.proofs.merging_of.Goals as goal

pub returns-in-0 : goal.returns-in-0
returns-in-0 c = merging-zero _ c.args.most c.in-0.is

pub returns-in-1 : goal.returns-in-1
returns-in-1 c = merging-one _ c.args.most (omega (arith, c.in-1.is)) c.in-1.is

pub returns-in_default : goal.returns-in_default
returns-in_default c = merging-other _ _ (omega arith) (omega arith)
