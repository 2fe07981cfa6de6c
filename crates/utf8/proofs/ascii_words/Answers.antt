-- `utf8::ascii_words` meets its contract. Assumes nothing.
use native.Mathlib.Omega.{arith}
use Rattle.words.specs.Words.{Bytes}
use Rattle.utf8.proofs.Laws.{sixteen}
use Rattle.utf8.proofs.ascii_words.Goals as goal

pub loop-i-preserved : goal.loop-i-preserved
loop-i-preserved c =
    let s = c.args in
    let l = c.loop-i in
    let bytes : Bytes s.s.now = λ j. (c.type_inv.s j).fits in
    record {
      on = omega arith;
      in-text = omega arith;
      same = omega (arith, sixteen s.s.now l.i _ _ bytes (omega arith) c.le64.ensures c.le64-in-loop-i.ensures c.if-le64-eq0.true);
    }
