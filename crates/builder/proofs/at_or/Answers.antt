use Rattle.basis.specs.Pick.{lt_yes, lt_no}
use mathlib.Core.Path.{refl}
use Rattle.builder.proofs.at_or.Goals as goal

pub returns-then-k-blocks : goal.returns-then-k-blocks
returns-then-k-blocks c = lt_yes _ _ _ _ _ c.if-k-blocks.true refl

pub returns-else-k-blocks : goal.returns-else-k-blocks
returns-else-k-blocks c = lt_no _ _ _ _ _ c.if-k-blocks.false refl
