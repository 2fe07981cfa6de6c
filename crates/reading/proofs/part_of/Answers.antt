-- `reading::part_of` meets its contract. Assumes nothing.
use Rattle.std.proofs.Common.{ap, sym, zero-add, ℕ, ◌∙◌}
use mathlib.Core.List.{[]}
use Rattle.reading.proofs.LocatedLaws.{at_lies, at-bytes, at-points, no_bytes, no-points}
use Rattle.reading.proofs.part_of.Goals as goal

pub part_of-requires : goal.part_of-requires
part_of-requires c = at_lies _ _ (0, 0) (0, 0) (0, 0) _ _ c.in-Ok.is c.requires

pub returns-in-Ok : goal.returns-in-Ok
returns-in-Ok c = (
  c.part_of.ensures.0 ∙ at-bytes _ _ (0, 0) (0, 0) (0, 0) _ _ c.in-Ok.is,
  c.part_of.ensures.1
      ∙ at-points [] [] _ _ (0, 0) _ _ c.in-Ok.is,
)

pub returns-in-Err : goal.returns-in-Err
returns-in-Err c = (
  no_bytes _ _ (0, 0) (0, 0) (0, 0) _ _ c.in-Err.is,
  no-points [] [] _ _ _ _ _ c.in-Err.is (ap (λ (k : ℕ). (c.args.views.ref_ptr.0, k)) (sym (zero-add c.args.views.ref_ptr.1))),
)
