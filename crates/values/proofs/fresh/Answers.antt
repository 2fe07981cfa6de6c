use Rattle.builder.proofs.StepLaws.{fresh-is}
use Rattle.values.proofs.fresh.Goals as goal

pub returns : goal.returns
returns c = fresh-is _ _ _ _ _ c.step-step.ensures c.requires.2
    c.all_blocks.ensures c.max.ensures
