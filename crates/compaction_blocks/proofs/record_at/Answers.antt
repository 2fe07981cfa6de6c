use Rattle.std.proofs.Common.{arith}
use Rattle.column.specs.Lent.{block}
use Rattle.compaction_blocks.proofs.RecordLaws.{named}
use Rattle.compaction_blocks.proofs.record_at.Goals as goal

pub returns-in-Some : goal.returns-in-Some
returns-in-Some c = named _ _ _ _ c.view_block.ensures.0 (c.in-Some.ensures.lookup.3.1 (block 0 0))

pub returns-in-None : goal.returns-in-None
returns-in-None c = named _ _ _ _ c.view_block.ensures.0 (c.in-None.ensures.lookup.4 (omega arith) (block 0 0))
