-- `marks::mark_with` meets its contract. Assumes nothing.
use Rattle.reading.proofs.ReadingLaws.{handed-on}
use Rattle.column.proofs.FitLaws.{fits-limit}
use Rattle.column.specs.Meaning.{row_valid}
use Rattle.reading.proofs.LocatedLaws.{at_lies}
use Rattle.marks.specs.MarkingLaws.{mark-no, mark-is, found-readable, fits-bit}
use Rattle.marks.proofs.mark_with.Goals as goal

pub mark_there-requires : goal.mark_there-requires
mark_there-requires c = at_lies _ _ (0, 0) (0, 0) (0, 0) _ _ c.in_ok-p.was c.locate_with.ensures.0

pub returns : goal.returns
unfolding row_valid
returns c = λ table sees.
    let e = c.locate_with.ensures.1 table sees in
    let g = found-readable _ _ _ _ _ _ _ e _ c.in_ok-p.was in
    mark-is _ _ _ _ _ _ _ e _ c.in_ok-p.was _
    (c.valid_in-valid.ensures (fits-limit _ _ _ _ _ _ g.fit g.row) (fits-bit _ _ _ g.fit g.row)) _ c.mark_there.ensures

pub returns-in_err-p : goal.returns-in_err-p
returns-in_err-p c = λ table sees.
    handed-on _ _ _ c.from_residual.ensures.1 (mark-no _ _ _ _ _ _ _ (c.locate_with.ensures.1 table sees) _ c.in_err-p.was)
