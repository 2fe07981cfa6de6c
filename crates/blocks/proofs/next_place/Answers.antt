-- `blocks::next_place` meets its contract. Assumes nothing.
use mathlib.Core.Path.{sym, ◌∙◌}
use native.Mathlib.Omega.{arith}
use Rattle.bounds.specs.Bounds.{row-limit-is}
use Rattle.blocks.proofs.WalkLaws.{stays-past, goes_on, stays-refused}
use Rattle.blocks.proofs.next_place.Goals as goal
use Rattle.blocks.proofs.next_place.Goals.{else-at-le-ROW_LIMIT-via-then-at-le-ROW_LIMIT+else-is_ok, else-at-le-ROW_LIMIT-via-else-at-le-ROW_LIMIT}

pub returns-then-is_ok : goal.returns-then-is_ok
returns-then-is_ok c = λ h. goes_on _ _ (sym c.is_ok.ensures.value ∙ c.if-is_ok.true)

pub returns-else-at-le-ROW_LIMIT : goal.returns-else-at-le-ROW_LIMIT
returns-else-at-le-ROW_LIMIT c = λ h.
    elim c.else-at-le-ROW_LIMIT.branch [
      | else-at-le-ROW_LIMIT-via-then-at-le-ROW_LIMIT+else-is_ok w ↦ stays-refused _ _ (sym w.is_ok.ensures.value ∙ w.if-is_ok.false)
      | else-at-le-ROW_LIMIT-via-else-at-le-ROW_LIMIT w ↦ stays-past _ _ (omega (arith, row-limit-is)) h
    ]
