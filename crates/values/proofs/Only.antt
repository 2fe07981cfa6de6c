-- No second answer to the value and null calls: their answer and every buffer that they are lent to write. Assumes nothing.
use mathlib.Core.Path.{sym, ◌∙◌}
use Rattle.basis.specs.Only.{Only}
use Rattle.values.proofs.append_value.Kinds as value-kinds
use Rattle.values.proofs.append_value.Reads as value
use Rattle.values.proofs.append_values.Kinds as values-kinds
use Rattle.values.proofs.append_values.Reads as values
use Rattle.values.proofs.append_null.Kinds as null-kinds
use Rattle.values.proofs.append_null.Reads as null

pub value-answer : Only value-kinds.ps value-kinds.r value.Post (λ κs z s. z)
value-answer κs a z z' s s' p q = p.answers ∙ sym q.answers

pub value-views : Only value-kinds.ps value-kinds.r value.Post (λ κs z s. s.1.0.now)
value-views κs a z z' s s' p q = p.views ∙ sym q.views

pub value-bytes : Only value-kinds.ps value-kinds.r value.Post (λ κs z s. s.1.1.0.now)
value-bytes κs a z z' s s' p q = p.bytes ∙ sym q.bytes

pub value-starts : Only value-kinds.ps value-kinds.r value.Post (λ κs z s. s.1.1.1.0.now)
value-starts κs a z z' s s' p q = p.starts ∙ sym q.starts

pub value-lens : Only value-kinds.ps value-kinds.r value.Post (λ κs z s. s.1.1.1.1.0.now)
value-lens κs a z z' s s' p q = p.lens ∙ sym q.lens

pub value-nulls : Only value-kinds.ps value-kinds.r value.Post (λ κs z s. s.1.1.1.1.1.0.now)
value-nulls κs a z z' s s' p q = p.nulls ∙ sym q.nulls

pub value-places : Only value-kinds.ps value-kinds.r value.Post (λ κs z s. s.1.1.1.1.1.1.0.now)
value-places κs a z z' s s' p q = p.places ∙ sym q.places

pub null-answer : Only null-kinds.ps null-kinds.r null.Post (λ κs z s. z)
null-answer κs a z z' s s' p q = p.answers ∙ sym q.answers

pub null-views : Only null-kinds.ps null-kinds.r null.Post (λ κs z s. s.1.0.now)
null-views κs a z z' s s' p q = p.views ∙ sym q.views

pub null-nulls : Only null-kinds.ps null-kinds.r null.Post (λ κs z s. s.1.1.1.1.1.0.now)
null-nulls κs a z z' s s' p q = p.nulls ∙ sym q.nulls

pub values-answer : Only values-kinds.ps values-kinds.r values.Post (λ κs z s. z)
values-answer κs a z z' s s' p q = p.answers ∙ sym q.answers

pub values-views : Only values-kinds.ps values-kinds.r values.Post (λ κs z s. s.1.0.now)
values-views κs a z z' s s' p q = p.views ∙ sym q.views

pub values-bytes : Only values-kinds.ps values-kinds.r values.Post (λ κs z s. s.1.1.0.now)
values-bytes κs a z z' s s' p q = p.bytes ∙ sym q.bytes

pub values-starts : Only values-kinds.ps values-kinds.r values.Post (λ κs z s. s.1.1.1.0.now)
values-starts κs a z z' s s' p q = p.starts ∙ sym q.starts

pub values-lens : Only values-kinds.ps values-kinds.r values.Post (λ κs z s. s.1.1.1.1.0.now)
values-lens κs a z z' s s' p q = p.lens ∙ sym q.lens

pub values-nulls : Only values-kinds.ps values-kinds.r values.Post (λ κs z s. s.1.1.1.1.1.0.now)
values-nulls κs a z z' s s' p q = p.nulls ∙ sym q.nulls

pub values-places : Only values-kinds.ps values-kinds.r values.Post (λ κs z s. s.1.1.1.1.1.1.0.now)
values-places κs a z z' s s' p q = p.places ∙ sym q.places
