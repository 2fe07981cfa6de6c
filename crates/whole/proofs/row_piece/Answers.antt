use Rattle.whole.specs.RestLaws.{count_most, wrote-open, wrote-null}
use mathlib.Core.Path.{sym, ◌∙◌}
use native.Mathlib.Omega.{arith}
use borrow.Author.Rules.{rules}
use Rattle.whole.proofs.row_piece.Goals as goal

pub overflow_add-result : goal.overflow_add-result
overflow_add-result c = omega (arith, c.requires, count_most c.args.c.rows)

pub returns-then-unwrap_or : goal.returns-then-unwrap_or
returns-then-unwrap_or c =
    wrote-open _ _ _ c.requires.0 _ c.requires.1 c.null_bit.ensures (sym c.unwrap_or.ensures ∙ c.if-unwrap_or.true) c.put_row_open.ensures

pub returns-else-unwrap_or : goal.returns-else-unwrap_or
returns-else-unwrap_or c =
    wrote-null _ _ _ c.requires.0 _ c.requires.1 c.null_bit.ensures (sym c.unwrap_or.ensures ∙ c.if-unwrap_or.false) c.put_row_null.ensures
