-- `column::fits_with` meets its contract. Assumes nothing.
use Rattle.std.proofs.Common.{leb-true, leb-false}
use mathlib.Core.Bool.{true≢false}
use mathlib.Core.Path.{sym, ◌∙◌}
use native.Mathlib.Omega.{arith}
use Rattle.bounds.specs.Bounds.{row-limit-is, block-limit-is}
use Rattle.column.proofs.FitLaws.{over-limit, over-views, over-map, over-blocks, fits-is}
use Rattle.column.proofs.fits_with.Goals as goal
use Rattle.column.proofs.fits_with.Goals.{then-map_holds, else-map_holds, then-c-views, else-c-views, then-c, else-c}

pub map_holds-requires : goal.map_holds-requires
map_holds-requires c = grind (arith, row-limit-is, leb-true)

pub returns-then-c-le-BLOCK_LIMIT : goal.returns-then-c-le-BLOCK_LIMIT
returns-then-c-le-BLOCK_LIMIT c = (
  λ h. grind (arith, row-limit-is, leb-true),
  λ bytes table e. fits-is _ _ _ _ _ _ e (grind (arith, row-limit-is, leb-true)) (grind (arith, row-limit-is, leb-true)) (grind arith)
      (grind (arith, block-limit-is, leb-true)),
)

pub returns-else-c-le-BLOCK_LIMIT : goal.returns-else-c-le-BLOCK_LIMIT
returns-else-c-le-BLOCK_LIMIT c = (
  λ h. absurd (true≢false (sym h ∙ c.if-c-le-BLOCK_LIMIT.false)),
  λ bytes table e. rw c.if-c-le-BLOCK_LIMIT.false (elim c.if-map_holds.branch [
    | then-map_holds w ↦ over-blocks _ _ _ _ _ (grind (arith, block-limit-is, leb-false))
    | else-map_holds w ↦ elim c.if-c-views.branch [
      | then-c-views v ↦ over-map _ _ _ _ _ (grind arith)
      | else-c-views v ↦ elim c.if-c.branch [
        | then-c u ↦ over-views _ _ _ _ _ (grind (arith, leb-false))
        | else-c u ↦ over-limit _ _ _ _ _ (grind (arith, row-limit-is, leb-false, leb-true))
      ]
    ]
  ]),
)
