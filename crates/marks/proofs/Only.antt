-- No second answer to either call. Assumes nothing.
use mathlib.Core.Path.{sym, ◌∙◌}
use Rattle.basis.specs.Only.{Only}
use Rattle.marks.proofs.mark_at.Kinds as mark-at-kinds
use Rattle.marks.proofs.mark_at.Reads as mark-at
use Rattle.marks.proofs.count_marks.Kinds as count-marks-kinds
use Rattle.marks.proofs.count_marks.Reads as count-marks

pub one-mark : Only mark-at-kinds.ps mark-at-kinds.r mark-at.Post (λ κs z s. z)
one-mark κs a z z' s s' p q = p ∙ sym q

pub one-tally : Only count-marks-kinds.ps count-marks-kinds.r count-marks.Post (λ κs z s. z)
one-tally κs a z z' s s' p q = p ∙ sym q
