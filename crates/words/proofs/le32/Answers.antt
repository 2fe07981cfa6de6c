use native.Mathlib.Omega.{arith}
use Rattle.words.specs.WordLaws.{le4}
use borrow.Author.Rules.{rules}
use Rattle.words.proofs.le32.Goals as goal

pub returns : goal.returns
returns c = let s = c.args in (omega (arith, le4 s.b.now s.i), search rules)
