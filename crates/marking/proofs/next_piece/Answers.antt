use Rattle.marking.specs.LeftLaws.{left-refused, left-opening, left-row, left-bytes, left_end}
use borrow.Author.Rules.{rules}
use Rattle.marking.proofs.next_piece.Goals as goal

pub returns-in-Refused : goal.returns-in-Refused
returns-in-Refused c = left-refused _ _ _ _ c.in-Refused.is c.put_refused.ensures

pub returns-in-Opening : goal.returns-in-Opening
returns-in-Opening c = left-opening _ _ _ c.in-Opening.is c.line_piece.ensures

pub returns-in-Line : goal.returns-in-Line
returns-in-Line c = left-row _ _ _ _ c.in-Line.is c.line_piece-in-Line.ensures

pub returns-in-Part : goal.returns-in-Part
returns-in-Part c = left-bytes _ _ _ _ _ c.in-Part.is c.part_piece.ensures

pub returns-in-End : goal.returns-in-End
returns-in-End c = left_end _ _ _ _ c.in-End.is
