-- The paper's four examples and their neighbours: for each boundary of the grammar a text on each side of it. Assumes nothing.
use Rattle.std.specs.Prelude.{◌≡◌, refl, List, [], ◌∷◌, map}
use Prim.Native.String.{String}
use Rattle.order.specs.Order.{same}
use Rattle.codes.specs.Ascii.{ascii}
use Rattle.codes.specs.declared.Mark.{Mark}
use Rattle.codes.specs.declared.Mark.TheVariants.{Other, Code, Date}
use Rattle.codes.specs.Grammar.{is_letter, is_digit, number_after}
use Rattle.codes.specs.Recogniser.{is_code_byte, may_stand, parted, conforms, leading, past_hyphen, is_digits, is_day, is_one_of, is_month, is_year, is_month_year, is_day_month, is_month_day, groups_follow, is_groups, is_date}
use Rattle.codes.specs.Marks.{mark_of}

pub record MarkedText : Type 0 where
  pub text : String
  pub mark : Mark

infix 20 ◌is◌
abbrev ◌is◌ : String → Mark → MarkedText
t is m = record { text = t; mark = m }

abbrev pub marked_texts : List MarkedText
marked_texts =
    -- the paper's
    ("3MAR" is Date) ∷ ("03-MAR-2019" is Date) ∷ ("32MAR" is Code) ∷ ("RO-8040-03MAR" is Code)
    -- 4 to 24 bytes
    ∷ ("" is Other) ∷ ("ABC" is Other) ∷ ("ABCD" is Code) ∷ ("ABCDEFGHIJKLMNOPQRSTUVWX" is Code) ∷ ("ABCDEFGHIJKLMNOPQRSTUVWXY" is Other)
    -- A to Z, 0 to 9 and hyphen
    ∷ ("ABC@" is Other) ∷ ("ABCA" is Code) ∷ ("ABCZ" is Code) ∷ ("ABC[" is Other) ∷ ("ABC/" is Other) ∷ ("ABC0" is Code) ∷ ("ABC9" is Code) ∷ ("ABC:" is Other)
    ∷ ("AB,C" is Other) ∷ ("AB-C" is Code) ∷ ("AB.C" is Other) ∷ ("ABCa" is Other) ∷ ("ABC\0" is Other) ∷ ("ABC " is Other)
    -- no hyphen first, last or doubled
    ∷ ("-ABC" is Other) ∷ ("A-BC" is Code) ∷ ("ABC-" is Other) ∷ ("A--B" is Other) ∷ ("A-B-C" is Code)
    -- a day 1 to 31 in one or two digits
    ∷ ("0MAR" is Code) ∷ ("1MAR" is Date) ∷ ("9MAR" is Date) ∷ ("00MAR" is Code) ∷ ("01MAR" is Date) ∷ ("10MAR" is Date) ∷ ("31MAR" is Date) ∷ ("31FEB" is Date)
    ∷ ("39MAR" is Code) ∷ ("001MAR" is Code) ∷ ("XMAR" is Code)
    -- an optional hyphen
    ∷ ("3-MAR" is Date) ∷ ("3--MAR" is Other)
    -- a month JAN to DEC
    ∷ ("1JAN" is Date) ∷ ("1FEB" is Date) ∷ ("1APR" is Date) ∷ ("1MAY" is Date) ∷ ("1JUN" is Date) ∷ ("1JUL" is Date) ∷ ("1AUG" is Date) ∷ ("1SEP" is Date)
    ∷ ("1OCT" is Date) ∷ ("1NOV" is Date) ∷ ("1DEC" is Date)
    ∷ ("1JAM" is Code) ∷ ("1JAO" is Code) ∷ ("1KAN" is Code) ∷ ("1MAA" is Code) ∷ ("1MAQ" is Code) ∷ ("1MAS" is Code) ∷ ("1DED" is Code) ∷ ("1MARC" is Code)
    ∷ ("1-MA" is Code)
    -- optionally a hyphen and two or four digits
    ∷ ("3MAR-1" is Code) ∷ ("3MAR-19" is Date) ∷ ("3MAR-201" is Code) ∷ ("3MAR-2019" is Date) ∷ ("3MAR-20190" is Code)
    ∷ ("3MAR-1A" is Code) ∷ ("3MAR-19-1" is Code)
    ∷ ("03MAR19" is Code) ∷ ("3MAR-" is Other)
    -- a month, an optional hyphen and a day
    ∷ ("MAR0" is Code) ∷ ("MAR3" is Date) ∷ ("MAR-3" is Date) ∷ ("MAR00" is Code) ∷ ("MAR01" is Date) ∷ ("MAR-31" is Date)
    ∷ ("MAR32" is Code) ∷ ("MAR003" is Code)
    ∷ ("MAR2019" is Code) ∷ ("MAR-3-19" is Code) ∷ ("MARS" is Code) ∷ ("MAS3" is Code) ∷ ("MAR--3" is Other)
    -- two or three groups of one to four digits
    ∷ ("1234" is Code) ∷ ("1-2" is Other) ∷ ("1-23" is Date) ∷ ("1234-5678" is Date) ∷ ("12345-1" is Code) ∷ ("1-12345" is Code)
    ∷ ("1-2A" is Code) ∷ ("A-12" is Code)
    ∷ ("1-2-3" is Date) ∷ ("1-2-34" is Date) ∷ ("1234-1234-1234" is Date) ∷ ("1-2-12345" is Code) ∷ ("1-2-3-4" is Code) ∷ ("1-2-A" is Code) ∷ ("1-2-" is Other)
    ∷ []

-- each has its mark
pub examples : map (λ (t : MarkedText). mark_of (ascii t.text)) marked_texts ≡ map (λ (t : MarkedText). t.mark) marked_texts
unfolding mark_of conforms parted may_stand is_code_byte is_letter is_digit leading past_hyphen is_digits is_day number_after is_one_of is_month same is_year
    is_month_year is_day_month is_month_day groups_follow is_groups is_date
examples = refl
