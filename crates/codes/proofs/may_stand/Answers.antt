-- `codes::may_stand` meets its contract. Assumes nothing.
use Rattle.std.proofs.Common.{rules}
use Rattle.codes.specs.Recogniser.{may_stand}
use Rattle.codes.proofs.may_stand.Goals as goal

pub returns-after-after : goal.returns-after-after
unfolding may_stand
returns-after-after c = search rules

pub returns-else-is_code_byte : goal.returns-else-is_code_byte
unfolding may_stand
returns-else-is_code_byte c = search rules
