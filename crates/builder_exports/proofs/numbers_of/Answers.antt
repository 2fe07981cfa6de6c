-- `builder_exports::numbers_of` meets its contract. Assumes nothing.
use Rattle.builder_exports.proofs.NumberLaws.{numbers-are}
use Rattle.builder_exports.proofs.numbers_of.Goals as goal

pub returns : goal.returns
returns c = numbers-are c.args.s _ _ _ _ _ _
    c.kind_number.ensures c.growth_number.ensures
    c.growth_size.ensures c.merging_number.ensures c.merging_most.ensures c.flag_number.ensures
