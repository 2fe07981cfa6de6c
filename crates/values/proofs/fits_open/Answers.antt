use Rattle.builder.proofs.StepLaws.{open_none, open-takes}
use borrow.Author.Tests.{eq-eqb}
use mathlib.Core.Bool.{not}
use mathlib.Core.Path.{ap, ◌∙◌}
use Rattle.values.proofs.fits_open.Goals as goal

pub returns-then-s-ne0 : goal.returns-then-s-ne0
returns-then-s-ne0 c = open-takes _ _ c.if-s-ne0.true

pub returns-else-s-ne0 : goal.returns-else-s-ne0
returns-else-s-ne0 c = ap not (eq-eqb _ 0 c.if-s-ne0.false) ∙ open_none _ _ c.if-s-ne0.false
