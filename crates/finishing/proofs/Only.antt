use mathlib.Core.Path.{sym, ◌∙◌}
use mathlib.Core.List.{List}
use Prim.Native.Nat.{ℕ}
use Rattle.basis.specs.Only.{Only}
use Rattle.finishing.proofs.start.Kinds as start-kinds
use Rattle.finishing.proofs.start.Reads as start
use Rattle.finishing.proofs.finish.Kinds as finish-kinds
use Rattle.finishing.proofs.finish.Reads as finish
use Rattle.finishing.proofs.finish_copy.Kinds as copy-kinds
use Rattle.finishing.proofs.finish_copy.Reads as copy
use Rattle.finishing.proofs.why_get.Kinds as why-kinds
use Rattle.finishing.proofs.why_get.Reads as why
use Rattle.finishing.proofs.get_value.Kinds as get-kinds
use Rattle.finishing.proofs.get_value.Reads as get

pub start-answer : Only start-kinds.ps start-kinds.r start.Post (λ κs z s. z)
start-answer κs a z z' s s' p q = p.0 ∙ sym q.0

pub start-places : Only start-kinds.ps start-kinds.r start.Post (λ κs z s. s.1.0.now)
start-places κs a z z' s s' p q = p.1 ∙ sym q.1

pub finish-answer : Only finish-kinds.ps finish-kinds.r finish.Post (λ κs z s. z)
finish-answer κs a z z' s s' p q = λ i. record { answer = (p.0.answers ∙ sym q.0.answers) i; column = (p.1 ∙ sym q.1) i }

pub finish-starts : Only finish-kinds.ps finish-kinds.r finish.Post (λ κs z s. s.1.1.1.0.now)
finish-starts κs a z z' s s' p q = p.0.starts ∙ sym q.0.starts

pub finish-lens : Only finish-kinds.ps finish-kinds.r finish.Post (λ κs z s. s.1.1.1.1.0.now)
finish-lens κs a z z' s s' p q = p.0.lens ∙ sym q.0.lens

pub finish-places : Only finish-kinds.ps finish-kinds.r finish.Post (λ κs z s. s.1.1.1.1.1.1.0.now)
finish-places κs a z z' s s' p q = p.0.places ∙ sym q.0.places

pub copy-answer : Only copy-kinds.ps copy-kinds.r copy.Post (λ κs z s. z)
copy-answer κs a z z' s s' p q = λ i. record { answer = (p.0.answers ∙ sym q.0.answers) i; column = (p.1 ∙ sym q.1) i }

pub copy-starts : Only copy-kinds.ps copy-kinds.r copy.Post (λ κs z s. s.1.1.1.0.now)
copy-starts κs a z z' s s' p q = p.0.starts ∙ sym q.0.starts

pub copy-lens : Only copy-kinds.ps copy-kinds.r copy.Post (λ κs z s. s.1.1.1.1.0.now)
copy-lens κs a z z' s s' p q = p.0.lens ∙ sym q.0.lens

pub why-answer : Only why-kinds.ps why-kinds.r why.Post (λ κs z s. z)
why-answer κs a z z' s s' p q = p ∙ sym q

-- of a part, also which one it is
pub get_value_lem : Only get-kinds.ps get-kinds.r {X = (ℕ × ℕ) × List ℕ} get.Post (λ κs z s. (z.ref_ptr, z.now))
get_value_lem κs a z z' s s' p q = λ i. ((p.1 ∙ sym q.1) i, (p.0 ∙ sym q.0) i)
