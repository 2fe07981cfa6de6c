use Rattle.builder.proofs.StepLaws.{lay-no-block, lay-no-data, lay-fine}
use Rattle.values.proofs.why_lay.Goals as goal

pub returns-then-no_block : goal.returns-then-no_block
returns-then-no_block c = lay-no-block _ _ _ _ _ c.no_block.ensures c.if-no_block.true

pub returns-then-bytes-s : goal.returns-then-bytes-s
returns-then-bytes-s c = lay-no-data _ _ _ _ _ c.no_block.ensures c.if-no_block.false c.if-bytes-s.true

pub returns : goal.returns
returns c = lay-fine _ _ _ _ _ c.no_block.ensures c.if-no_block.false c.if-bytes-s.false
