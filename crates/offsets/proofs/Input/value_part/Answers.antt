use Rattle.offsets.proofs.RowLaws.{cut-is}
use Rattle.offsets.proofs.Input.value_part.Goals as goal

pub returns : goal.returns
returns c = cut-is _ _ _ _ _ _ c.offset_at-a.ensures c.offset_at-e.ensures
