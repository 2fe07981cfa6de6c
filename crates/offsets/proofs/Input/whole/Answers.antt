use Rattle.std.proofs.Common.{◌+◌, sym, ◌∙◌, arith}
use Rattle.offsets.proofs.TextLaws.{text-row}
use Rattle.offsets.proofs.Input.whole.Goals as goal

pub returns-then-is_utf8 : goal.returns-then-is_utf8
returns-then-is_utf8 c = λ e j h.
    text-row _ _ _ _ j (sym c.is_utf8.ensures ∙ c.if-is_utf8.true) (c.requires.2 j h) (c.on_bounds.ensures e j (omega arith))
    (c.on_bounds.ensures e (j + 1) (omega arith))
