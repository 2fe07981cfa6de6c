-- `builder_exports::state_of` meets its contract. Assumes nothing.
use Rattle.builder_exports.proofs.NumberLaws.{state-is}
use Rattle.builder_exports.proofs.state_of.Goals as goal

pub returns : goal.returns
returns c =
    state-is _ _ _ _ c.kind_of.ensures c.growth_of.ensures c.merging_of.ensures
