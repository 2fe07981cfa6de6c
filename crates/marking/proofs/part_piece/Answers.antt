use Rattle.listing.specs.Laws.{put_holds}
use Rattle.marking.specs.LeftLaws.{wrote_nothing, wrote-line-end, wrote-bytes}
use native.Mathlib.Omega.{arith}
use borrow.Author.Rules.{rules}
use Rattle.marking.proofs.part_piece.Goals as goal

pub returns-then-c-k : goal.returns-then-c-k
returns-then-c-k c = wrote_nothing _ _ _ _ _ c.if-c-k.true

pub returns-then-x-at : goal.returns-then-x-at
returns-then-x-at c =
    wrote-line-end _ _ _ (omega (arith, c.if-c-k.false)) _
    c.value-x.ensures.0 c.if-x-at.true (put_holds c.put_bytes.ensures (omega arith))

pub returns : goal.returns
returns c =
    wrote-bytes _ _ _ (omega (arith, c.if-c-k.false)) _ _
    c.value-x.ensures.0 c.part_end-to.ensures.lower_bound.0
    c.part_end-to.ensures.lower_bound.1 (put_holds c.put_bytes-2.ensures (search rules))
