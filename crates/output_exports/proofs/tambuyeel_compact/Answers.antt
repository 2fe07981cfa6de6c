-- `output_exports::tambuyeel_compact` meets its contract. Assumes nothing.
use borrow.Author.Rules.{rules}
use Rattle.column.specs.Lent.{lent}
use Rattle.numbers.specs.Numbers.{column_from}
use Rattle.output_exports.proofs.GivenLaws.{compacts}
use Rattle.output_exports.proofs.tambuyeel_compact.Goals as goal

pub returns : goal.returns
returns c =
    let a = c.args in
    let did = c.compact-done in
    compacts a.most (lent a.views.now a.bytes.now a.starts.now a.lens.now a.nulls.now) (column_from a.column.now)
    c.column_of.result
    a.newviews.now a.newbytes.now a.newstarts.now a.newlens.now a.newnulls.now a.newcolumn.now
    did.result c.told_why.result _ _ _ _ _ _ c.column_of.ensures did.ensures c.hand.ensures c.told_why.ensures
