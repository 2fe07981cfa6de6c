-- `batches::is_below` meets its contract. Assumes nothing.
use Rattle.std.proofs.Common.{sym, ◌∙◌, arith, rules}
use borrow.Author.Tests.{not-true, not-false}
use Rattle.bounds.specs.Bounds.{row-limit-small}
use Rattle.column.proofs.FitLaws.{fits_gives}
use Rattle.comparison.specs.VerdictLaws.{readable}
use Rattle.batches.proofs.Laws.{left-unreached, right-unreached, both-less, less-is, next-readable, next-order}
use Rattle.batches.proofs.is_below.Goals as goal

pub returns-then-not-good : goal.returns-then-not-good
returns-then-not-good c =
    let p = c.requires in
    left-unreached _ _ _ _ p.0 (omega (arith, p.1)) p.1 (sym p.2 ∙ c.if-not-good.true)

pub overflow_add-c : goal.overflow_add-c
overflow_add-c c =
    let p = c.requires in
    let g = fits_gives _ _ _ _ _ _ p.0 in omega (arith, p.1, g.rows, row-limit-small)

pub order_of-requires : goal.order_of-requires
order_of-requires c =
    let p = c.requires in (
      readable _ _ _ _ _ _ _ p.0 (omega (arith, p.1)) (sym p.2 ∙ c.if-not-good.false),
      next-readable _ _ _ _ _ _ _ p.0 p.1 (sym p.3 ∙ c.if-next.true),
    )

pub returns-else-next : goal.returns-else-next
returns-else-next c =
    let p = c.requires in
    c.if-next.false ∙ right-unreached _ _ _ _ p.0 (omega (arith, p.1)) p.1 (sym p.3 ∙ c.if-next.false)

pub returns-then-next : goal.returns-then-next
returns-then-next c =
    let p = c.requires in
    c.is_lt.ensures ∙ (less-is c.order_of.result
    ∙ both-less _ _ _ _ p.0 (omega (arith, p.1)) p.1 (sym p.2 ∙ c.if-not-good.false)
    (sym p.3 ∙ c.if-next.true) c.order_of.result
    (next-order _ _ _ _ _ c.args.c _ c.order_of.result c.order_of.ensures))
