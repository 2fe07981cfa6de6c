-- An input and its answer, computed. Assumes nothing.
use Rattle.std.specs.Prelude.{◌≡◌, refl}
use Rattle.order.specs.Order.{same}
use Rattle.codes.specs.Ascii.{ascii}
use Rattle.codes.specs.Grammar.{is_letter, is_digit, number_after}
use Rattle.codes.specs.Recogniser.{is_code_byte, may_stand, parted, conforms, leading, past_hyphen, is_digits, is_day, is_one_of, is_month, is_year, is_month_year, is_day_month, is_month_day, groups_follow, is_groups, is_date}
use Rattle.codes.specs.Marks.{mark_of}
use Rattle.listing.specs.Text.{digits, decimal, number_line, refused_line}
use Rattle.shelf.specs.Lines.{on_first, lines, says, first_bad_line}
use Rattle.marking.specs.Text.{mark_line, mark_lines, marks_in, tally_lines, marked_rows, marked_lines, marked_answer}

pub marks-example : marked_answer (ascii "code=03-MAR-2019\nnull=\ncode=RO-8040-03MAR\ncode=ro-8040\ncode=\n")
    ≡ ascii "date=03-MAR-2019\nnull=\ncode=RO-8040-03MAR\nother=ro-8040\nother=\ndates=1\ncodes=1\nothers=2\nnulls=1\n"
unfolding marked_answer marked_lines marked_rows mark_lines mark_line marks_in tally_lines lines on_first says first_bad_line same digits decimal number_line refused_line
    mark_of conforms parted may_stand is_code_byte is_letter is_digit leading past_hyphen is_digits is_day number_after is_one_of is_month is_year is_month_year
    is_day_month is_month_day
    groups_follow is_groups is_date
marks-example = refl

-- the second line is the first that is neither
pub marks-refused : marked_answer (ascii "code=3MAR\n3MAR\nnull=\n") ≡ ascii "refused=2\n"
unfolding marked_answer marked_lines marked_rows mark_lines mark_line marks_in tally_lines lines on_first says first_bad_line same digits decimal number_line refused_line
marks-refused = refl
