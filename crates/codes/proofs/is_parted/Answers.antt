-- `codes::is_parted` meets its contract. Assumes nothing.
use Rattle.std.proofs.Common.{sym, ◌∙◌, arith}
use Rattle.codes.proofs.Laws.{parted-no, parted-on, parted-end}
use Rattle.codes.proofs.is_parted.Goals as goal

pub returns-then-not-may_stand : goal.returns-then-not-may_stand
returns-then-not-may_stand c = parted-no c.args.s.now c.loop-b.b-index c.loop-b.after (omega arith)
    (sym c.may_stand.ensures ∙ c.if-not-may_stand.true) c.loop-b.invariant

pub loop-b-preserved : goal.loop-b-preserved
loop-b-preserved c = parted-on c.args.s.now c.loop-b.b-index c.loop-b.after (omega arith)
    (sym c.may_stand.ensures ∙ c.if-not-may_stand.false) c.loop-b.invariant

pub returns : goal.returns
returns c = sym (parted-end c.args.s.now c.loop-b.b-index c.loop-b.after (omega arith)) ∙ c.loop-b.invariant
