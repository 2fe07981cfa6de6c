use Rattle.std.proofs.Common.{◌∙◌}
use Rattle.compaction.proofs.CallLaws.{map-yes, map-no}
use Rattle.compaction.proofs.put_map.Goals as goal

pub returns-then-c : goal.returns-then-c
returns-then-c c = c.copy_column.ensures ∙ map-yes _ _ _ _ _ c.if-c.true

pub returns-else-c : goal.returns-else-c
returns-else-c c = map-no _ _ _ _ _ c.if-c.false
