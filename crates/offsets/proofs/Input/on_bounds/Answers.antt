use Rattle.std.proofs.Common.{ℕ, subst, arith, below_more}
use Rattle.utf8.specs.Cut.{Begins}
use Rattle.offsets.specs.Offsets.{offset_at}
use Rattle.offsets.specs.Steps.{width}
use Rattle.offsets.proofs.Input.on_bounds.Goals as goal

pub loop-j-preserved : goal.loop-j-preserved
loop-j-preserved c =
    let s = c.args.self in
    below_more (λ (i : ℕ). Begins s.bytes.now (offset_at (width s) s.offsets.now i)) _ c.loop-j.invariant
    (subst (Begins s.bytes.now) c.offset_at.ensures (c.begins.ensures c.if-not-begins.false))

pub returns : goal.returns
returns c = λ e i h. c.loop-j.invariant i (omega arith)
