-- How codes and dates are recognised. That it is the grammar's answer, both ways, is proofs/Exactly. Assumes nothing.
use Rattle.std.specs.Prelude.{Bool, true, false, not, ◌&&◌, ◌||◌, List, [], ◌∷◌, ℕ, zero, suc, leb, eqb, length, take, drop}
use Rattle.basis.specs.Pick.{pick}
use Rattle.order.specs.Order.{same}
use Rattle.codes.specs.Grammar.{is_letter, is_digit, hyphen_byte, number_after, months}

abbrev pub is_hyphen : ℕ → Bool
is_hyphen b = eqb b hyphen_byte

unfoldable pub is_code_byte : ℕ → Bool
is_code_byte b = is_hyphen b || (is_letter b || is_digit b)

-- `after`, at the start and after a hyphen, no hyphen
unfoldable pub may_stand : Bool → ℕ → Bool
may_stand after b = is_code_byte b && not (after && is_hyphen b)

-- letters, digits and single hyphens, none of them at the end
unfoldable pub parted : Bool → List ℕ → Bool
parted after [] = not after
parted after (b ∷ x) = may_stand after b && parted (is_hyphen b) x

unfoldable pub conforms : List ℕ → Bool
conforms x = leb 4 (length x) && (leb (length x) 24 && parted true x)

-- how many digits a text begins with, and what follows them
unfoldable pub leading : List ℕ → ℕ
leading [] = 0
leading (b ∷ x) = pick (is_digit b) (suc (leading x)) 0

abbrev pub after_digits : List ℕ → List ℕ
after_digits x = drop (leading x) x

-- a text without the hyphen that it may begin with
unfoldable pub past_hyphen : List ℕ → List ℕ
past_hyphen [] = []
past_hyphen (b ∷ x) = pick (is_hyphen b) x (b ∷ x)

-- digits alone, lo to hi of them
unfoldable pub is_digits : ℕ → ℕ → List ℕ → Bool
is_digits lo hi x = leb lo (length x) && (leb (length x) hi && eqb (leading x) (length x))

unfoldable pub is_day : List ℕ → Bool
is_day x = is_digits 1 2 x && (leb 1 (number_after 0 x) && leb (number_after 0 x) 31)

unfoldable pub is_one_of : List (List ℕ) → List ℕ → Bool
is_one_of [] x = false
is_one_of (t ∷ ts) x = same x t || is_one_of ts x

unfoldable pub is_month : List ℕ → Bool
is_month x = is_one_of months x

-- after a month: nothing, or a hyphen and two or four digits
unfoldable pub is_year : List ℕ → Bool
is_year [] = true
is_year (b ∷ x) = is_hyphen b && (is_digits 2 2 x || is_digits 4 4 x)

unfoldable pub is_month_year : List ℕ → Bool
is_month_year x = is_month (take 3 x) && is_year (drop 3 x)

unfoldable pub is_day_month : List ℕ → Bool
is_day_month x = is_day (take (leading x) x) && is_month_year (past_hyphen (after_digits x))

unfoldable pub is_month_day : List ℕ → Bool
is_month_day x = is_month (take 3 x) && is_day (past_hyphen (drop 3 x))

abbrev pub is_group : ℕ → Bool
is_group d = leb 1 d && leb d 4

-- a hyphen and a group, n times at most, and the end
unfoldable pub groups_follow : ℕ → List ℕ → Bool
groups_follow zero [] = true
groups_follow zero (b ∷ x) = false
groups_follow (suc n) [] = true
groups_follow (suc n) (b ∷ x) = is_hyphen b && (is_group (leading x) && groups_follow n (after_digits x))

-- a group, and one or two more
unfoldable pub is_groups : List ℕ → Bool
is_groups x = is_group (leading x) && (not (leb (length x) (leading x)) && groups_follow 2 (after_digits x))

-- a text that begins with a digit begins with a day or a group, any other with a month
unfoldable pub is_date : List ℕ → Bool
is_date x = pick (eqb (leading x) 0) (is_month_day x) (is_day_month x || is_groups x)
