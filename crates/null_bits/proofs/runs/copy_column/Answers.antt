use mathlib.Core.Path.{◌∙◌}
use Rattle.null_bits.proofs.RunLaws.{column-map, column-none}
use Rattle.null_bits.proofs.runs.copy_column.Goals as goal

pub returns-then-mapped : goal.returns-then-mapped
returns-then-mapped c = c.copy_bits.ensures ∙ column-map _ _ _ _ _ _ c.if-mapped.true

pub returns-else-mapped : goal.returns-else-mapped
returns-else-mapped c = c.put_run.ensures ∙ column-none _ _ _ _ _ _ c.if-mapped.false
