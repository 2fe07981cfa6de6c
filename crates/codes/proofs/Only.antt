-- No second answer to whether a value conforms, whether it is taken for a date, and what its mark and a mark's number are. Assumes nothing.
use mathlib.Core.Path.{sym, ◌∙◌}
use Rattle.basis.specs.Only.{Only}
use Rattle.codes.proofs.conforms.Kinds as conforms-kinds
use Rattle.codes.proofs.conforms.Reads as conforms
use Rattle.codes.proofs.is_date.Kinds as is-date-kinds
use Rattle.codes.proofs.is_date.Reads as is-date
use Rattle.codes.proofs.mark_of.Kinds as mark-of-kinds
use Rattle.codes.proofs.mark_of.Reads as mark_of
use Rattle.codes.proofs.number_of.Kinds as number-of-kinds
use Rattle.codes.proofs.number_of.Reads as number_of_lem

pub one-conforms : Only conforms-kinds.ps conforms-kinds.r conforms.Post (λ κs z s. z)
one-conforms κs a z z' s s' p q = p ∙ sym q

pub one-is-date : Only is-date-kinds.ps is-date-kinds.r is-date.Post (λ κs z s. z)
one-is-date κs a z z' s s' p q = p ∙ sym q

pub one-mark : Only mark-of-kinds.ps mark-of-kinds.r mark_of.Post (λ κs z s. z)
one-mark κs a z z' s s' p q = p ∙ sym q

pub one_number : Only number-of-kinds.ps number-of-kinds.r number_of_lem.Post (λ κs z s. z)
one_number κs a z z' s s' p q = p ∙ sym q
