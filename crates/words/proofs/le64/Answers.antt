use native.Mathlib.Omega.{arith}
use Rattle.words.specs.WordLaws.{le8}
use Rattle.words.proofs.le64.Goals as goal

pub returns : goal.returns
returns c =
    let s = c.args in omega (arith, le8 s.b.now s.i)
