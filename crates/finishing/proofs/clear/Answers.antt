use Rattle.finishing.specs.EndLaws.{clear-off, clear-on}
use Rattle.finishing.proofs.clear.Goals as goal

pub returns-then-not-is_off : goal.returns-then-not-is_off
returns-then-not-is_off c = clear-on _ _ _ c.is_off.ensures _ c.if-not-is_off.true (c.fill.ensures.after (λ y h. h))

pub returns-else-not-is_off : goal.returns-else-not-is_off
returns-else-not-is_off c = clear-off _ _ _ c.is_off.ensures c.if-not-is_off.false
