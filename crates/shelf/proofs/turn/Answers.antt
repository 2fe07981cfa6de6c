use Rattle.std.proofs.Common.{rules, refl, sym, ap, ◌∙◌}
use Rattle.shelf.proofs.AddLaws.{added-value, added-null, added_none}
use Rattle.shelf.proofs.ScanLaws.{part_from}
use Rattle.shelf.proofs.turn.Goals as goal

pub returns-in-Code : goal.returns-in-Code
returns-in-Code c =
    let a = c.args in
    let x = ap (λ b. b.now) c.unwrap_or-x.ensures ∙ part_from (λ b. b.now) a.line.now 5 _ _ refl c.get.ensures.lookup in
    added-value a.s a.views.now a.bytes.now a.starts.now a.lens.now a.nulls.now a.places.now a.line.now _ (sym c.says.ensures ∙ c.in-Code.is) x
    c.append_value.ensures

pub returns-in-Null : goal.returns-in-Null
returns-in-Null c =
    let a = c.args in
    added-null a.s a.views.now a.bytes.now a.starts.now a.lens.now a.nulls.now a.places.now a.line.now (sym c.says.ensures ∙ c.in-Null.is)
    c.append_null.ensures

pub returns-in-Bad : goal.returns-in-Bad
returns-in-Bad c = added_none _ _ (sym c.says.ensures ∙ c.in-Bad.is)
