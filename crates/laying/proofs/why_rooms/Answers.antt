use Rattle.std.proofs.Common.{sym, ◌∙◌}
use Rattle.column.proofs.FitLaws.{length-table}
use Rattle.laying.proofs.why_rooms.Goals as goal

pub returns : goal.returns
returns c = c.why_rooms_with.ensures _ (c.min-count.ensures ∙ sym (length-table _ _))
