use Rattle.marking.specs.LeftLaws.{wrote-tally, wrote-name}
use native.Mathlib.Omega.{arith}
use borrow.Author.Rules.{rules}
use Rattle.marking.proofs.line_piece.Goals as goal

pub returns-then-c-k : goal.returns-then-c-k
returns-then-c-k c =
    wrote-tally _ _ _ c.if-c-k.true c.unwrap_or-t.ensures c.count_marks.ensures
    c.put_tally.ensures

pub returns : goal.returns
returns c =
    wrote-name _ _ _ (omega (arith, c.if-c-k.false)) c.unwrap_or-m.ensures
    c.mark_at.ensures c.put_name.ensures
