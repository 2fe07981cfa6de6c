use Rattle.copy.proofs.Overlap.{two-words}
use native.Mathlib.Omega.{arith}
use Rattle.copy.proofs.two_words.Goals as goal

pub returns : goal.returns
returns c =
    let s = c.args in
    cc (two-words s.src.now s.dst.now
    (λ j. (c.type_inv.src j).fits)
    (omega arith) _ _ (omega arith) (omega arith) c.le64-x.ensures
    c.le64-y.ensures)
