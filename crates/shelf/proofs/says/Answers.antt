use Rattle.std.proofs.Common.{rules, sym, ◌∙◌}
use Rattle.std.specs.Cmp.Lexicographic.{same_text, other_text}
use Rattle.order.proofs.OrderLaws.{same-yes, same-no}
use Rattle.shelf.proofs.SaysLaws.{says-code, says-null, says-bad}
use Rattle.shelf.proofs.says.Goals as goal

pub returns-then-starts_with : goal.returns-then-starts_with
returns-then-starts_with c = says-code _ (same-yes _ _ (sym (same_text _ _ (sym c.if-starts_with.true ∙ c.starts_with.ensures.value))))

pub returns-then-eq : goal.returns-then-eq
returns-then-eq c =
    says-null _ (same-no _ _ (λ e. other_text _ _ (sym c.if-starts_with.false ∙ c.starts_with.ensures.value) (sym e)))
    (same-yes _ _ (same_text _ _ (sym c.if-eq.true ∙ c.eq.ensures) ∙ c.as_slice.ensures))

pub returns-else-eq : goal.returns-else-eq
returns-else-eq c =
    says-bad _ (same-no _ _ (λ e. other_text _ _ (sym c.if-starts_with.false ∙ c.starts_with.ensures.value) (sym e)))
    (same-no _ _ (λ e. other_text _ _ (sym c.if-eq.false ∙ c.eq.ensures) (e ∙ sym c.as_slice.ensures)))
