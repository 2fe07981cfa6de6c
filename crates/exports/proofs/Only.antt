-- No second answer to an exported call.
-- Assumes nothing.
use mathlib.Core.Path.{sym, ◌∙◌}
use Rattle.basis.specs.Only.{Only}
use Rattle.exports.proofs.tambuyeel_why_value.Kinds as why-value-kinds
use Rattle.exports.proofs.tambuyeel_why_value.Reads as why-value
use Rattle.exports.proofs.tambuyeel_check.Kinds as check-kinds
use Rattle.exports.proofs.tambuyeel_check.Reads as check
use Rattle.exports.proofs.tambuyeel_compare.Kinds as compare-kinds
use Rattle.exports.proofs.tambuyeel_compare.Reads as compare
use Rattle.exports.proofs.tambuyeel_same_column.Kinds as same-column-kinds
use Rattle.exports.proofs.tambuyeel_same_column.Reads as same-column
use Rattle.exports.proofs.tambuyeel_value.Kinds as value-kinds
use Rattle.exports.proofs.tambuyeel_value.Reads as value

pub one_number : Only why-value-kinds.ps why-value-kinds.r why-value.Post (λ κs z s. z)
one_number κs a z z' s s' p q = p ∙ sym q

pub one-check : Only check-kinds.ps check-kinds.r check.Post (λ κs z s. z)
one-check κs a z z' s s' p q = p ∙ sym q

pub one-order : Only compare-kinds.ps compare-kinds.r compare.Post (λ κs z s. z)
one-order κs a z z' s s' p q = p ∙ sym q

pub one-sameness : Only same-column-kinds.ps same-column-kinds.r same-column.Post (λ κs z s. z)
one-sameness κs a z z' s s' p q = p ∙ sym q

pub one_place : Only value-kinds.ps value-kinds.r value.Post (λ κs z s. z)
one_place κs a z z' s s' p q = p ∙ sym q
