use Rattle.whole.specs.RestLaws.{at-refused, at-opening, at-line, at_part, at-end}
use borrow.Author.Rules.{rules}
use Rattle.whole.proofs.next_piece.Goals as goal

pub returns-in-Refused : goal.returns-in-Refused
returns-in-Refused c = at-refused _ _ _ _ c.in-Refused.is c.put_refused.ensures

pub returns-in-Opening : goal.returns-in-Opening
returns-in-Opening c = at-opening _ _ _ c.in-Opening.is c.put_opening.ensures

pub returns-in-Line : goal.returns-in-Line
returns-in-Line c = at-line _ _ _ _ c.in-Line.is c.line_piece.ensures

pub returns-in-Part : goal.returns-in-Part
returns-in-Part c = at_part _ _ _ _ _ c.in-Part.is c.part_piece.ensures

pub returns-in-End : goal.returns-in-End
returns-in-End c = at-end _ _ _ _ c.in-End.is
