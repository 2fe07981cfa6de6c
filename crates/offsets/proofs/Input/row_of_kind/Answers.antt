use Rattle.std.proofs.Common.{sym, ◌∙◌}
use Rattle.offsets.proofs.RowLaws.{kind-null, kind-valid}
use Rattle.offsets.proofs.Input.row_of_kind.Goals as goal

pub returns-then-not-valid_at : goal.returns-then-not-valid_at
returns-then-not-valid_at c = kind-null _ _ _ _ _ _ _ (sym c.valid_at.ensures ∙ c.if-not-valid_at.true)

pub returns : goal.returns
returns c = kind-valid _ _ _ _ _ _ _ _ _ (sym c.valid_at.ensures ∙ c.if-not-valid_at.false)
    c.value_part.ensures c.of_kind.ensures
