-- No second answer to a conversion, in either width: neither the answer nor any lent buffer at exit. Assumes nothing.
use mathlib.Core.Path.{sym, ◌∙◌}
use Rattle.basis.specs.Only.{Only}
use Rattle.offsets.proofs.from_offsets.Kinds as from-offsets-kinds
use Rattle.offsets.proofs.from_offsets.Reads as from-offsets

pub one_answer : Only from-offsets-kinds.ps from-offsets-kinds.r from-offsets.Post (λ κs z s. z)
one_answer κs a z z' s s' p q = p.answer ∙ sym q.answer

pub one-views : Only from-offsets-kinds.ps from-offsets-kinds.r from-offsets.Post (λ κs z s. s.1.1.1.1.1.0.now)
one-views κs a z z' s s' p q = p.views ∙ sym q.views

pub one-bytes : Only from-offsets-kinds.ps from-offsets-kinds.r from-offsets.Post (λ κs z s. s.1.1.1.1.1.1.0.now)
one-bytes κs a z z' s s' p q = p.bytes ∙ sym q.bytes

pub one-starts : Only from-offsets-kinds.ps from-offsets-kinds.r from-offsets.Post (λ κs z s. s.1.1.1.1.1.1.1.0.now)
one-starts κs a z z' s s' p q = p.starts ∙ sym q.starts

pub one-lens : Only from-offsets-kinds.ps from-offsets-kinds.r from-offsets.Post (λ κs z s. s.1.1.1.1.1.1.1.1.0.now)
one-lens κs a z z' s s' p q = p.lens ∙ sym q.lens

pub one-nulls : Only from-offsets-kinds.ps from-offsets-kinds.r from-offsets.Post (λ κs z s. s.1.1.1.1.1.1.1.1.1.0.now)
one-nulls κs a z z' s s' p q = p.nulls ∙ sym q.nulls
