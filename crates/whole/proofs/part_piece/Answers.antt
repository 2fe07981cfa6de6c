use Rattle.whole.specs.Rest.{item_value}
use Rattle.whole.specs.RestLaws.{wrote_none, wrote-close, wrote-part}
use mathlib.Core.Path.{ap, ◌∙◌}
use native.Mathlib.Omega.{arith}
use borrow.Author.Rules.{rules}
use Rattle.whole.proofs.part_piece.Goals as goal

pub returns-then-items-k : goal.returns-then-items-k
returns-then-items-k c = wrote_none _ _ _ _ _ (omega (arith, c.items.ensures, c.if-items-k.true))

pub returns-then-x-at : goal.returns-then-x-at
returns-then-x-at c =
    wrote-close _ _ _
    (omega (arith, c.items.ensures, c.if-items-k.false)) _ _
    (c.item_value-x.ensures ∙ ap (item_value _ _) c.nth_item.ensures)
    c.if-x-at.true c.put_row_close.ensures

pub returns : goal.returns
returns c =
    wrote-part _ _ _
    (omega (arith, c.items.ensures, c.if-items-k.false))
    _ _ _ (c.item_value-x.ensures ∙ ap (item_value _ _) c.nth_item.ensures)
    c.part_end-to.ensures.lower_bound.0 c.part_end-to.ensures.lower_bound.1 c.row_part.ensures
