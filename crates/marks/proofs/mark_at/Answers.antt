-- `marks::mark_at` meets its contract. Assumes nothing.
use native.Mathlib.Omega.{arith}
use Rattle.reading.proofs.ReadingLaws.{handed-on}
use Rattle.bounds.specs.Bounds.{row-limit-small}
use Rattle.column.proofs.FitLaws.{fits-limit}
use Rattle.column.specs.Meaning.{row_valid}
use Rattle.marks.specs.MarkingLaws.{mark-no, mark-is, found-readable, there-lies, fits-bit}
use Rattle.marks.proofs.mark_at.Goals as goal

pub overflow_add-c : goal.overflow_add-c
overflow_add-c c =
    let g = found-readable _ _ _ _ _ _ _ c.locate.ensures _ c.in_ok-s.was in
    let f = fits-limit _ _ _ _ _ _ g.fit g.row in
    omega (arith, row-limit-small)

pub valid_at-valid-requires : goal.valid_at-valid-requires
valid_at-valid-requires c =
    let g = found-readable _ _ _ _ _ _ _ c.locate.ensures _ c.in_ok-s.was in
    λ m. let b = fits-bit _ _ _ g.fit g.row m in omega arith

pub mark_there-requires : goal.mark_there-requires
mark_there-requires c = there-lies _ _ _ _ _ _ _ c.locate.ensures _ c.in_ok-s.was

pub returns : goal.returns
unfolding row_valid
returns c = mark-is _ _ _ _ _ _ _ c.locate.ensures _
    c.in_ok-s.was _ c.valid_at-valid.ensures _ c.mark_there.ensures

pub returns-in_err-s : goal.returns-in_err-s
returns-in_err-s c =
    handed-on _ _ _ c.from_residual.ensures.1 (mark-no _ _ _ _ _ _ _ c.locate.ensures _ c.in_err-s.was)
