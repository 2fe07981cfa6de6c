use mathlib.Core.Path.{ap, ◌∙◌}
use Rattle.order.specs.Order.{ordering}
use Rattle.order.proofs.OrderLaws.{ordering-slice_cmp}
use Rattle.order.proofs.by_bytes.Goals as goal

pub returns : goal.returns
returns c = ap ordering c.cmp.ensures ∙ ordering-slice_cmp _ _
