-- No second answer to an exported call: neither the answer nor any lent buffer or number at exit. Assumes nothing.
use mathlib.Core.Path.{sym, ◌∙◌}
use Rattle.basis.specs.Only.{Only}
use Rattle.output_exports.proofs.tambuyeel_compact.Kinds as compact-kinds
use Rattle.output_exports.proofs.tambuyeel_compact.Reads as compact
use Rattle.output_exports.proofs.tambuyeel_from_offsets.Kinds as offsets-kinds
use Rattle.output_exports.proofs.tambuyeel_from_offsets.Reads as offsets

pub one-compact-answer : Only compact-kinds.ps compact-kinds.r compact.Post (λ κs z s. z)
one-compact-answer κs a z z' s s' p q = p.answer ∙ sym q.answer

pub one-compact-views : Only compact-kinds.ps compact-kinds.r compact.Post (λ κs z s. s.1.1.1.1.1.1.1.0.now)
one-compact-views κs a z z' s s' p q = p.views ∙ sym q.views

pub one-compact-bytes : Only compact-kinds.ps compact-kinds.r compact.Post (λ κs z s. s.1.1.1.1.1.1.1.1.0.now)
one-compact-bytes κs a z z' s s' p q = p.bytes ∙ sym q.bytes

pub one-compact-starts : Only compact-kinds.ps compact-kinds.r compact.Post (λ κs z s. s.1.1.1.1.1.1.1.1.1.0.now)
one-compact-starts κs a z z' s s' p q = p.starts ∙ sym q.starts

pub one-compact-lens : Only compact-kinds.ps compact-kinds.r compact.Post (λ κs z s. s.1.1.1.1.1.1.1.1.1.1.0.now)
one-compact-lens κs a z z' s s' p q = p.lens ∙ sym q.lens

pub one-compact-nulls : Only compact-kinds.ps compact-kinds.r compact.Post (λ κs z s. s.1.1.1.1.1.1.1.1.1.1.1.0.now)
one-compact-nulls κs a z z' s s' p q = p.nulls ∙ sym q.nulls

pub one-compact-column : Only compact-kinds.ps compact-kinds.r compact.Post (λ κs z s. s.1.1.1.1.1.1.1.1.1.1.1.1.0.now)
one-compact-column κs a z z' s s' p q = p.column ∙ sym q.column

pub one-offsets-answer : Only offsets-kinds.ps offsets-kinds.r offsets.Post (λ κs z s. z)
one-offsets-answer κs a z z' s s' p q = p.answer ∙ sym q.answer

pub one-offsets-views : Only offsets-kinds.ps offsets-kinds.r offsets.Post (λ κs z s. s.1.1.1.1.1.0.now)
one-offsets-views κs a z z' s s' p q = p.views ∙ sym q.views

pub one-offsets-bytes : Only offsets-kinds.ps offsets-kinds.r offsets.Post (λ κs z s. s.1.1.1.1.1.1.0.now)
one-offsets-bytes κs a z z' s s' p q = p.bytes ∙ sym q.bytes

pub one-offsets-starts : Only offsets-kinds.ps offsets-kinds.r offsets.Post (λ κs z s. s.1.1.1.1.1.1.1.0.now)
one-offsets-starts κs a z z' s s' p q = p.starts ∙ sym q.starts

pub one-offsets-lens : Only offsets-kinds.ps offsets-kinds.r offsets.Post (λ κs z s. s.1.1.1.1.1.1.1.1.0.now)
one-offsets-lens κs a z z' s s' p q = p.lens ∙ sym q.lens

pub one-offsets-nulls : Only offsets-kinds.ps offsets-kinds.r offsets.Post (λ κs z s. s.1.1.1.1.1.1.1.1.1.0.now)
one-offsets-nulls κs a z z' s s' p q = p.nulls ∙ sym q.nulls

pub one-offsets-column : Only offsets-kinds.ps offsets-kinds.r offsets.Post (λ κs z s. s.1.1.1.1.1.1.1.1.1.1.0.now)
one-offsets-column κs a z z' s s' p q = p.column ∙ sym q.column
