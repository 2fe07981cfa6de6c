use native.Mathlib.Omega.{arith}
use Rattle.words.specs.WordLaws.{be4}
use borrow.Author.Rules.{rules}
use Rattle.words.proofs.be32.Goals as goal

pub returns : goal.returns
returns c = let s = c.args in (omega (arith, be4 s.b.now s.i), search rules)
