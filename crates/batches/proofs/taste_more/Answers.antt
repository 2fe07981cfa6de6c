-- `batches::taste_more` meets its contract. Assumes nothing.
use Rattle.std.proofs.Common.{refl, inl, inr, ap, arith, rules}
use Rattle.bounds.specs.Bounds.{byte-limit-small}
use Rattle.column.specs.declared.Spot.{Spot}
use Rattle.column.proofs.SpotLaws.{lies-view, lies-data, view-bytes, data-bytes, no_bytes}
use Rattle.column.specs.Truth.{reach_by, is_inside}
use Rattle.batches.proofs.Laws.{taste-added, taste-nothing}
use Rattle.batches.proofs.taste_more.Goals as goal

pub overflow_add-a : goal.overflow_add-a
overflow_add-a c = let h = lies-view _ _ _ _ _ c.in-View.is c.requires in omega arith

pub slice_bounds-taste-end : goal.slice_bounds-taste-end
slice_bounds-taste-end c = let h = lies-view _ _ _ _ _ c.in-View.is c.requires in omega arith

pub returns-in-View : goal.returns-in-View
returns-in-View c =
    taste-added _ _ _ _ _ refl c.taste.ensures
    (view-bytes _ _ _ _ _ c.in-View.is)

pub overflow_add-a-in-Data : goal.overflow_add-a-in-Data
overflow_add-a-in-Data c = let h = lies-data _ _ _ _ _ c.in-Data.is c.requires in omega (arith, byte-limit-small)

pub slice_bounds-taste-end-in-Data : goal.slice_bounds-taste-end-in-Data
slice_bounds-taste-end-in-Data c = let h = lies-data _ _ _ _ _ c.in-Data.is c.requires in omega arith

pub returns-in-Data : goal.returns-in-Data
returns-in-Data c =
    taste-added _ _ _ _ _ refl c.taste-in-Data.ensures
    (data-bytes _ _ _ _ _ c.in-Data.is)

pub returns-in-NoBlock : goal.returns-in-NoBlock
returns-in-NoBlock c = taste-nothing _ _ (omega arith) (no_bytes _ _ _ 0 0
    (elim c.in-NoBlock.is [ inl e ↦ ap (λ (s : Spot). is_inside (reach_by s)) e | inr e ↦ ap (λ (s : Spot). is_inside (reach_by s)) e ]))
