-- `codes::groups_follow` meets its contract. Assumes nothing.
use Rattle.std.proofs.Common.{◌≡◌, ◌-◌}
use Rattle.codes.specs.Recogniser.{groups_follow}
use Rattle.codes.proofs.groups_follow.Given as goal

abbrev pub invariant-loop : goal.invariant-loop
invariant-loop l = groups_follow (2 - l.counter) l.rest ≡ groups_follow 2 l.s
