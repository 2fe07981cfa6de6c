-- `builder_exports::settings_of` meets its contract. Assumes nothing.
use Rattle.builder_exports.proofs.NumberLaws.{settings-is}
use Rattle.builder_exports.proofs.settings_of.Goals as goal

pub returns : goal.returns
returns c = settings-is _ _ _ _ c.kind_of.ensures c.sizes_of.ensures
    c.merging_of.ensures
