-- `output_blocks::from_offsets` meets its contract. Assumes nothing.
use Rattle.std.proofs.Common.{refl, sym, ◌∙◌, arith}
use Rattle.bounds.specs.Refusals.{accepted-yes, accepted-no}
use Rattle.output_blocks.proofs.TabledLaws.{tabled, has-place}
use Rattle.output_blocks.proofs.from_offsets.Goals as goal

pub bounds-table-0 : goal.bounds-table-0
bounds-table-0 c =
    let h = has-place _ _ _ _ _ _ _ _ _ _ _ _ _ c.min-places.ensures c.from_offsets-outcome.ensures (sym c.is_ok.ensures.value ∙ c.if-is_ok.true) in
    omega arith

pub returns-then-is_ok : goal.returns-then-is_ok
returns-then-is_ok c =
    tabled _ _ _ _ _ _ _ _ _ _ _ _ _ _ c.min-places.ensures c.from_offsets-outcome.ensures
    (accepted-yes _ _ _ _ _ refl (sym c.is_ok.ensures.value ∙ c.if-is_ok.true) refl)

pub returns-else-is_ok : goal.returns-else-is_ok
returns-else-is_ok c =
    tabled _ _ _ _ _ _ _ _ _ _ _ _ _ _ c.min-places.ensures c.from_offsets-outcome.ensures
    (accepted-no _ _ _ _ _ refl (sym c.is_ok.ensures.value ∙ c.if-is_ok.false) refl)
