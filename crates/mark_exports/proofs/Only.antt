-- No second answer to an exported call on marks.
-- Assumes nothing.
use mathlib.Core.Path.{sym, ◌∙◌}
use Rattle.basis.specs.Only.{Only}
use Rattle.mark_exports.proofs.tambuyeel_mark.Kinds as mark-kinds
use Rattle.mark_exports.proofs.tambuyeel_mark.Reads as mark
use Rattle.mark_exports.proofs.tambuyeel_count_marks.Kinds as count-marks-kinds
use Rattle.mark_exports.proofs.tambuyeel_count_marks.Reads as count-marks

pub one-mark : Only mark-kinds.ps mark-kinds.r mark.Post (λ κs z s. z)
one-mark κs a z z' s s' p q = p ∙ sym q

pub one-count : Only count-marks-kinds.ps count-marks-kinds.r count-marks.Post (λ κs z s. z)
one-count κs a z z' s s' p q = p ∙ sym q
