use native.Mathlib.Omega.{arith}
use Rattle.null_bits.specs.Bits.{count_valid}
use Rattle.null_bits.proofs.CountLaws.{count-is}
use Rattle.null_bits.proofs.Laws.{count-three, count-four, cut}
use Rattle.null_bits.proofs.count_valid.Goals as goal

pub returns-then-rows-eq0 : goal.returns-then-rows-eq0
unfolding count_valid
returns-then-rows-eq0 c = count-is _ _ _ _ (rw c.if-rows-eq0.true)

pub returns-then-tail-eq0 : goal.returns-then-tail-eq0
returns-then-tail-eq0 c =
    count-is _ _ _ _
    (rw (c.count_part-a.ensures.is, c.count_words-b.ensures.is, c.count_bytes-d.ensures.is)
    (count-three _ _ _ _ _ _ _ _ _ (omega arith) (omega arith) (omega arith) (omega arith)))

pub returns : goal.returns
returns c =
    count-is _ _ _ _
    (rw (
      c.count_part-a.ensures.is,
      c.count_words-b.ensures.is,
      c.count_bytes-d.ensures.is,
      c.count_part-2.ensures.is,
    )
    (count-four _ _ _ _ _ _ _ _ _ _ _ (omega arith) (omega arith) (omega arith) (omega arith) (cut _ _ (omega arith))))
