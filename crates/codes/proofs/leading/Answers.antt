-- `codes::leading` meets its contract. The digits passed and those that are left are all. Assumes nothing.
use Rattle.std.proofs.Common.{sym, ◌∙◌, arith}
use Rattle.codes.specs.Grammar.{is_digit}
use Rattle.codes.proofs.Laws.{leading-more, leading-stop, leading_end}
use Rattle.codes.proofs.leading.Goals as goal

pub loop-i-preserved : goal.loop-i-preserved
unfolding is_digit
loop-i-preserved c = omega (arith, leading-more c.args.s.now c.loop-i.i (omega arith) (sym c.is_ascii_digit.ensures.value ∙ c.if-not-is_ascii_digit.false))

pub returns-then-not-is_ascii_digit : goal.returns-then-not-is_ascii_digit
unfolding is_digit
returns-then-not-is_ascii_digit c =
    omega (arith, leading-stop c.args.s.now c.loop-i.i (omega arith) (sym c.is_ascii_digit.ensures.value ∙ c.if-not-is_ascii_digit.true))

pub returns : goal.returns
returns c = omega (arith, leading_end c.args.s.now c.loop-i.i (omega arith))
