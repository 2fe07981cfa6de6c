use native.Mathlib.Omega.{arith}
use Rattle.words.specs.WordLaws.{be8}
use Rattle.words.proofs.be64.Goals as goal

pub returns : goal.returns
returns c = let s = c.args in omega (arith, be8 s.b.now s.i)
