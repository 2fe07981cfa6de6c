use Rattle.std.proofs.Common.{length, sym, ap, ◌∙◌, arith}
use Rattle.offsets.proofs.RowLaws.{view-null, view-valid, cut_most}
use Rattle.offsets.specs.Steps.{width}
use Rattle.offsets.proofs.Input.put_row.Goals as goal

pub returns-then-not-valid_at : goal.returns-then-not-valid_at
returns-then-not-valid_at c = view-null _ _ _ _ _ _ _ _ (sym c.valid_at.ensures ∙ c.if-not-valid_at.true) c.zero_view.ensures

pub put_view-requires : goal.put_view-requires
put_view-requires c =
    let s = c.args.self in
    let g = cut_most (width s) s.offsets.now s.bytes.now c.args.j in
    let e = ap length c.value_part-value.ensures in
    (omega arith, omega arith)

pub returns : goal.returns
returns c =
    view-valid _ _ _ _ _ _ _ _ _ _ (sym c.valid_at.ensures ∙ c.if-not-valid_at.false) c.value_part-value.ensures c.offset_at-a.ensures
    c.put_view.ensures
