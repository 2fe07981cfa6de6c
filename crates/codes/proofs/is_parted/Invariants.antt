-- `codes::is_parted` meets its contract. Assumes nothing.
use Rattle.std.proofs.Common.{◌≡◌, true, drop}
use Rattle.codes.specs.Recogniser.{parted}
use Rattle.codes.proofs.is_parted.Given as goal

abbrev pub invariant-loop-b : goal.invariant-loop-b
invariant-loop-b l = parted l.after (drop l.b-index l.s) ≡ parted true l.s
