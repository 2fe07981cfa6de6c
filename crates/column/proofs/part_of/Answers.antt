-- `column::part_of` meets its contract. Assumes nothing.
use mathlib.Core.Path.{refl, ap}
use native.Mathlib.Omega.{arith}
use Rattle.column.proofs.SpotLaws.{lies-view, lies-data, view-bytes, data-bytes, no_bytes, points-view, points-data, points_none}
use Rattle.bounds.specs.Bounds.{byte-limit-small}
use Rattle.column.specs.Truth.{reach_by, is_inside}
use Rattle.std.proofs.Common.{inl, inr, ◌≡◌, false, sym, zero-add, ℕ}
use Rattle.column.proofs.part_of.Goals as goal

pub overflow_add-result : goal.overflow_add-result
overflow_add-result c = let h = lies-view _ _ _ _ _ c.in-View.is c.requires in omega arith

pub slice_bounds-result-end : goal.slice_bounds-result-end
slice_bounds-result-end c = let h = lies-view _ _ _ _ _ c.in-View.is c.requires in omega arith

pub returns-in-View : goal.returns-in-View
returns-in-View c = (view-bytes _ _ _ _ _ c.in-View.is, points-view _ _ _ _ _ _ c.in-View.is refl)

pub overflow_add-result-in-Data : goal.overflow_add-result-in-Data
overflow_add-result-in-Data c = let h = lies-data _ _ _ _ _ c.in-Data.is c.requires in omega (arith, byte-limit-small)

pub slice_bounds-result-end-in-Data : goal.slice_bounds-result-end-in-Data
slice_bounds-result-end-in-Data c = let h = lies-data _ _ _ _ _ c.in-Data.is c.requires in omega arith

pub returns-in-Data : goal.returns-in-Data
returns-in-Data c = (data-bytes _ _ _ _ _ c.in-Data.is, points-data _ _ _ _ _ _ c.in-Data.is refl)

pub returns-in-NoBlock : goal.returns-in-NoBlock
returns-in-NoBlock c =
    let none : is_inside (reach_by c.args.s) ≡ false = elim c.in-NoBlock.is [ inl e ↦ rw e | inr e ↦ rw e ] in
    (no_bytes _ _ _ 0 0 none, points_none _ _ _ _ 0 0 none (ap (λ (k : ℕ). (c.args.views.ref_ptr.0, k)) (sym (zero-add c.args.views.ref_ptr.1))))
