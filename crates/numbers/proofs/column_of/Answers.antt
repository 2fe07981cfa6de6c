-- `numbers::column_of` meets its contract. Assumes nothing.
use Rattle.numbers.specs.Laws.{column-is}
use Rattle.numbers.proofs.column_of.Goals as goal

pub returns : goal.returns
returns c = column-is _ _ c.kind_of.ensures
