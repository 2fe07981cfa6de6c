-- `filing_columns::lay_block` meets its contract. Assumes nothing.
use mathlib.Core.Path.{◌∙◌}
use Rattle.filing_columns.proofs.ColumnsLaws.{lay-is}
use Rattle.filing_columns.proofs.lay_block.Goals as goal

pub returns : goal.returns
returns c =
    let a = c.args in
    c.lay.ensures ∙ lay-is a.bytes.now a.src.now a.at a.b.start a.b.len
    c.requires.1
