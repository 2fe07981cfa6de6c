use Rattle.std.proofs.Common.{ltb-true, leb-true, leb-false, sym, ◌∙◌, arith}
use Rattle.offsets.specs.OffsetLaws.{cut-negative, cut-past, cut-rest}
use Rattle.offsets.proofs.Input.cuts.Goals as goal
use Rattle.offsets.proofs.Input.cuts.Goals.{then-last-half, else-last-half}

pub returns-then-last-self : goal.returns-then-last-self
returns-then-last-self c =
    let h = c.half.ensures in
    elim c.if-last-half.branch [
      | then-last-half w ↦ (let g = leb-true _ _ (sym w.value-is ∙ c.if-last-self.true) in
          cut-rest _ _ _ _ c.requires.0 _ _ c.offset_at-last.ensures (omega arith) (omega arith) c.rises.ensures)
      | else-last-half w ↦ (let g = ltb-true _ _ (sym w.value-is ∙ c.if-last-self.true) in absurd (omega arith))
    ]

pub returns-else-last-self : goal.returns-else-last-self
returns-else-last-self c =
    let h = c.half.ensures in
    rw c.if-last-self.false (elim c.if-last-half.branch [
      | then-last-half w ↦ (let g = leb-false _ _ (sym w.value-is ∙ c.if-last-self.false) in cut-past _ _ _ _ c.requires.0 _ c.offset_at-last.ensures (omega arith))
      | else-last-half w ↦ cut-negative _ _ _ _ c.requires.0 _ c.offset_at-last.ensures (omega arith)
    ])
