use native.Mathlib.Omega.{arith}
use Rattle.words.specs.ListLaws.{put_two}
use Rattle.words.proofs.copy16.Goals as goal

pub returns : goal.returns
returns c =
    let s = c.args in
    cc (put_two s.dst.now s.src.now s.o s.p _ _ (λ j. (c.type_inv.src j).fits) (omega arith)
    (omega arith) c.le64-x.ensures c.le64-y.ensures)
