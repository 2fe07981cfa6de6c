use Rattle.words.specs.WordLaws.{put4}
use lib.ListN.{length-set}
use native.Mathlib.Omega.{arith}
use Rattle.words.proofs.put32.Goals as goal

pub bounds-b-i-2 : goal.bounds-b-i-2
bounds-b-i-2 c = simp length-set (omega arith)

pub bounds-b-i-3 : goal.bounds-b-i-3
bounds-b-i-3 c = simp length-set (omega arith)

pub bounds-b-i-4 : goal.bounds-b-i-4
bounds-b-i-4 c = simp length-set (omega arith)

pub returns : goal.returns
returns c = simp (c.low.ensures, c.low-2.ensures, c.low-3.ensures, c.low-4.ensures) (put4 _ _ _)
