use Rattle.copy.proofs.Overlap.{four-words}
use native.Mathlib.Omega.{arith}
use Rattle.copy.proofs.four_words.Goals as goal

pub returns : goal.returns
returns c =
    let s = c.args in
    cc (four-words s.src.now s.dst.now
    (λ j. (c.type_inv.src j).fits) (omega arith) _ _ _ _ (omega arith) (omega arith)
    c.le64-x.ensures c.le64-y.ensures
    c.le64-z.ensures c.le64-w.ensures)
