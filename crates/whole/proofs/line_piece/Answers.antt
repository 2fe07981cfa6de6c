use Rattle.whole.specs.RestLaws.{wrote-closing, wrote-gap}
use mathlib.Core.Path.{sym, ◌∙◌}
use native.Mathlib.Omega.{arith}
use borrow.Author.Rules.{rules}
use Rattle.whole.proofs.line_piece.Goals as goal

pub returns-then-items-k : goal.returns-then-items-k
returns-then-items-k c = wrote-closing _ _ _ (omega (arith, c.items.ensures, c.if-items-k.true)) c.closing_piece.ensures

pub row_piece-requires : goal.row_piece-requires
row_piece-requires c = (
  (omega (
    arith,
    c.items.ensures,
    c.if-items-k.false,
  )),
  sym c.in-Row.is ∙ c.nth_item.ensures,
)

pub returns-in-Gap : goal.returns-in-Gap
returns-in-Gap c =
    wrote-gap _ _ _
    (omega (arith, c.items.ensures, c.if-items-k.false))
    _ (sym c.in-Gap.is ∙ c.nth_item.ensures) c.put_gap.ensures
