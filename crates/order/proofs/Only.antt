-- No second answer to a comparison or to the question of sameness.
-- Assumes nothing.
use mathlib.Core.Path.{sym, ◌∙◌}
use Rattle.basis.specs.Only.{Only}
use Rattle.order.proofs.OrderLaws.{ordering-one}
use Rattle.order.proofs.cmp.Kinds as cmp-kinds
use Rattle.order.proofs.cmp.Reads as cmp
use Rattle.order.proofs.cmp_short.Kinds as cmp-short-kinds
use Rattle.order.proofs.cmp_short.Reads as cmp-short
use Rattle.order.proofs.same.Kinds as same-kinds
use Rattle.order.proofs.same.Reads as same

pub one-order : Only cmp-kinds.ps cmp-kinds.r cmp.Post (λ κs z s. z)
one-order κs a z z' s s' p q = ordering-one z z' (p ∙ sym q)

pub one-short : Only cmp-short-kinds.ps cmp-short-kinds.r cmp-short.Post (λ κs z s. z)
one-short κs a z z' s s' p q = ordering-one z z' (p ∙ sym q)

pub one_same : Only same-kinds.ps same-kinds.r same.Post (λ κs z s. z)
one_same κs a z z' s s' p q = p ∙ sym q
