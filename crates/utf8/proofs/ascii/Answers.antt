-- `utf8::ascii` meets its contract. Assumes nothing.
use native.Mathlib.Omega.{arith}
use Rattle.utf8.proofs.Laws.{ascii-one}
use Rattle.utf8.proofs.ascii.Goals as goal

pub loop-i-preserved : goal.loop-i-preserved
loop-i-preserved c =
    let s = c.args in
    let l = c.loop-i in
    record { on = omega arith; in-text = omega arith; same = omega (arith, ascii-one s.s.now l.i (omega arith) (omega arith)) }
