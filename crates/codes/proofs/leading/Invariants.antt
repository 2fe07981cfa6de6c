-- `codes::leading` meets its contract. The digits passed and those that are left are all. Assumes nothing.
use Rattle.std.proofs.Common.{◌≡◌, ◌+◌, drop}
use Rattle.codes.specs.Recogniser.{leading}
use Rattle.codes.proofs.leading.Given as goal

abbrev pub invariant-loop-i : goal.invariant-loop-i
invariant-loop-i l = l.i + leading (drop l.i l.s) ≡ leading l.s
