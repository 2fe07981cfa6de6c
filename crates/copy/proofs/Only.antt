-- No second result of a copy. Assumes nothing.
use mathlib.Core.Path.{sym, ◌∙◌}
use Rattle.basis.specs.Only.{Only}
use Rattle.copy.proofs.copy.Kinds as copy-kinds
use Rattle.copy.proofs.copy.Reads as copy

pub one-copy : Only copy-kinds.ps copy-kinds.r copy.Post (λ κs z s. s.1.0.now)
one-copy κs a z z' s s' p q = p ∙ sym q
