-- `numbers::column_numbers` meets its contract. Assumes nothing.
use Rattle.numbers.specs.Laws.{column-numbers-are}
use Rattle.numbers.proofs.column_numbers.Goals as goal

pub returns : goal.returns
returns c = column-numbers-are c.args.c _ _ c.kind_number.ensures c.flag_number.ensures
