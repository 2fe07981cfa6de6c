-- `utf8::ascii` meets its contract. Assumes nothing.
use Rattle.utf8.specs.Lead.{Passed}
use Rattle.utf8.proofs.ascii.Given as goal

abbrev pub invariant-loop-i : goal.invariant-loop-i
invariant-loop-i l = Passed l.s l.at l.i
