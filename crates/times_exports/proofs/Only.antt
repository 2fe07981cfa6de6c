-- No second answer to a value n times, nor a second content of the state's numbers or of a buffer that it is lent to write. Assumes nothing.
use mathlib.Core.Path.{sym, ◌∙◌}
use Rattle.basis.specs.Only.{Only}
use Rattle.times_exports.proofs.tambuyeel_append_values.Kinds as values-kinds
use Rattle.times_exports.proofs.tambuyeel_append_values.Reads as values

pub values-number : Only values-kinds.ps values-kinds.r values.Post (λ κs z s. z)
values-number κs a z z' s s' p q = p.number ∙ sym q.number

pub values-state : Only values-kinds.ps values-kinds.r values.Post (λ κs z s. s.0.now)
values-state κs a z z' s s' p q = p.state ∙ sym q.state

pub values-views : Only values-kinds.ps values-kinds.r values.Post (λ κs z s. s.1.0.now)
values-views κs a z z' s s' p q = p.views ∙ sym q.views

pub values-bytes : Only values-kinds.ps values-kinds.r values.Post (λ κs z s. s.1.1.0.now)
values-bytes κs a z z' s s' p q = p.bytes ∙ sym q.bytes

pub values-starts : Only values-kinds.ps values-kinds.r values.Post (λ κs z s. s.1.1.1.0.now)
values-starts κs a z z' s s' p q = p.starts ∙ sym q.starts

pub values-lens : Only values-kinds.ps values-kinds.r values.Post (λ κs z s. s.1.1.1.1.0.now)
values-lens κs a z z' s s' p q = p.lens ∙ sym q.lens

pub values-nulls : Only values-kinds.ps values-kinds.r values.Post (λ κs z s. s.1.1.1.1.1.0.now)
values-nulls κs a z z' s s' p q = p.nulls ∙ sym q.nulls

pub values-places : Only values-kinds.ps values-kinds.r values.Post (λ κs z s. s.1.1.1.1.1.1.0.now)
values-places κs a z z' s s' p q = p.places ∙ sym q.places
