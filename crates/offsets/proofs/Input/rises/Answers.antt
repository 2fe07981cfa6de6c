use Rattle.std.proofs.Common.{◌≡◌, sym, arith}
use Rattle.offsets.specs.OffsetLaws.{rise-none, rise-more, rise-not}
use Rattle.offsets.proofs.Input.rises.Goals as goal

pub loop-j-init : goal.loop-j-init
loop-j-init c = record { last = c.offset_at-last.ensures; rise = rise-none _ _ }

pub returns-then-next-last : goal.returns-then-next-last
returns-then-next-last c =
    let p = c.offset_at-next.ensures in
    let q = c.loop-j.invariant.last in
    rise-not _ _ _ c.loop-j.j (omega arith) (omega arith)

pub loop-j-preserved : goal.loop-j-preserved
loop-j-preserved c =
    let i = c.loop-j.invariant in
    record { last = c.offset_at-next.ensures; rise = rise-more _ _ _ _ _ i.last c.offset_at-next.ensures (omega arith) i.rise }

pub returns : goal.returns
returns c = let e : c.loop-j.j ≡ c.args.rows = omega arith in rw (← e) (sym c.loop-j.invariant.rise)
