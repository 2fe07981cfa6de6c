-- `output_exports::tambuyeel_from_offsets` meets its contract. Assumes nothing.
use Rattle.std.proofs.Common.{◌∙◌}
use mathlib.Core.Bool.{not}
use lib.Dec.{eqb}
use borrow.Author.Rules.{rules}
use Rattle.offsets.specs.Offsets.{source}
use Rattle.numbers.specs.Numbers.{kind_from}
use Rattle.output_exports.proofs.GivenLaws.{converts}
use Rattle.output_exports.proofs.tambuyeel_from_offsets.Goals as goal

pub returns : goal.returns
returns c =
    let a = c.args in
    let did = c.from_offsets-done in
    converts (source a.offsets.now a.bytes.now a.nulls.now (not (eqb a.mapped 0))) (kind_from a.kind) c.kind_of.result
    a.newviews.now a.newbytes.now a.newstarts.now a.newlens.now a.newnulls.now a.newcolumn.now
    did.result c.from.result _ _ _ _ _ _ c.kind_of.ensures did.ensures c.hand.ensures (c.from.ensures ∙ c.why_number.ensures)
