-- No second answer to a compaction: neither the answer nor any lent buffer at exit. Assumes nothing.
use mathlib.Core.Path.{sym, ◌∙◌}
use Rattle.basis.specs.Only.{Only}
use Rattle.compaction.proofs.compact.Kinds as compact-kinds
use Rattle.compaction.proofs.compact.Reads as compact

pub one_answer : Only compact-kinds.ps compact-kinds.r compact.Post (λ κs z s. z)
one_answer κs a z z' s s' p q = p.answer ∙ sym q.answer

pub one-views : Only compact-kinds.ps compact-kinds.r compact.Post (λ κs z s. s.1.1.1.0.now)
one-views κs a z z' s s' p q = p.views ∙ sym q.views

pub one-bytes : Only compact-kinds.ps compact-kinds.r compact.Post (λ κs z s. s.1.1.1.1.0.now)
one-bytes κs a z z' s s' p q = p.bytes ∙ sym q.bytes

pub one-starts : Only compact-kinds.ps compact-kinds.r compact.Post (λ κs z s. s.1.1.1.1.1.0.now)
one-starts κs a z z' s s' p q = p.starts ∙ sym q.starts

pub one-lens : Only compact-kinds.ps compact-kinds.r compact.Post (λ κs z s. s.1.1.1.1.1.1.0.now)
one-lens κs a z z' s s' p q = p.lens ∙ sym q.lens

pub one-nulls : Only compact-kinds.ps compact-kinds.r compact.Post (λ κs z s. s.1.1.1.1.1.1.1.0.now)
one-nulls κs a z z' s s' p q = p.nulls ∙ sym q.nulls
