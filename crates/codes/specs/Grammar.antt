-- What an element code is, and which codes a spreadsheet would take for a date: the sentences of the code profile as productions. Nothing here says how
-- a code is recognised. Assumes nothing.
use Rattle.std.specs.Prelude.{◌≡◌, ◌≢◌, ◌⊎◌, Bool, true, ◌&&◌, List, [], ◌∷◌, ◌++◌, ℕ, suc, ◌+◌, ◌*◌, ◌-◌, ◌≤◌, ◌<◌, leb, length, get_or}
use Rattle.codes.specs.Ascii.{ascii}

-- A to Z
unfoldable pub is_letter : ℕ → Bool
is_letter b = leb 65 b && leb b 90

-- 0 to 9
unfoldable pub is_digit : ℕ → Bool
is_digit b = leb 48 b && leb b 57

abbrev pub hyphen_byte : ℕ
hyphen_byte = 45

-- 4 to 24 bytes from A to Z, 0 to 9 and hyphen, with no hyphen first, last or doubled
pub record ElementCode (x : List ℕ) : Type 0 where
  pub least : 4 ≤ length x
  pub most : length x ≤ 24
  pub from : (i : ℕ) → i < length x → (is_letter (get_or x i 0) ≡ true) ⊎ ((is_digit (get_or x i 0) ≡ true) ⊎ (get_or x i 0 ≡ hyphen_byte))
  pub first : get_or x 0 0 ≢ hyphen_byte
  pub last : get_or x (length x - 1) 0 ≢ hyphen_byte
  pub doubled : (i : ℕ) → suc i < length x → get_or x i 0 ≡ hyphen_byte → get_or x (suc i) 0 ≢ hyphen_byte

-- texts of one kind
abbrev pub Texts : Type 1
Texts = List ℕ → Type 0

-- one and then the other; the one or the other; the one or nothing
pub record Joined (a b : Texts) (x : List ℕ) : Type 0 where
  pub front : List ℕ
  pub back : List ℕ
  pub whole : x ≡ front ++ back
  pub one : a front
  pub other : b back

infixr 24 ◌then◌
abbrev pub ◌then◌ : Texts → Texts → Texts
a then b = Joined a b

infixr 22 ◌or◌
abbrev pub ◌or◌ : Texts → Texts → Texts
(a or b) x = a x ⊎ b x

abbrev pub optional : Texts → Texts
optional a x = (x ≡ []) ⊎ a x

-- lo to hi digits
pub record Digits (lo hi : ℕ) (x : List ℕ) : Type 0 where
  pub least : lo ≤ length x
  pub most : length x ≤ hi
  pub all : (i : ℕ) → i < length x → is_digit (get_or x i 0) ≡ true

-- the number that digits say, after those that said n
unfoldable pub number_after : ℕ → List ℕ → ℕ
number_after n [] = n
number_after n (b ∷ x) = number_after (10 * n + (b - 48)) x

-- a day: 1 to 31 in one or two digits
pub record Day (x : List ℕ) : Type 0 where
  pub digits : Digits 1 2 x
  pub least : 1 ≤ number_after 0 x
  pub most : number_after 0 x ≤ 31

abbrev pub day : Texts
day = Day

abbrev pub hyphen : Texts
hyphen x = x ≡ ascii "-"

-- JAN to DEC
abbrev pub months : List (List ℕ)
months =
    ascii "JAN" ∷ ascii "FEB" ∷ ascii "MAR" ∷ ascii "APR" ∷ ascii "MAY" ∷ ascii "JUN"
    ∷ ascii "JUL" ∷ ascii "AUG" ∷ ascii "SEP" ∷ ascii "OCT" ∷ ascii "NOV" ∷ ascii "DEC" ∷ []

pub record OneOf (ts : List (List ℕ)) (x : List ℕ) : Type 0 where
  pub which : ℕ
  pub low : which < length ts
  pub is : x ≡ get_or ts which []

abbrev pub month : Texts
month = OneOf months

abbrev pub two_or_four_digits : Texts
two_or_four_digits = Digits 2 2 or Digits 4 4

abbrev pub group : Texts
group = Digits 1 4

-- a day, an optional hyphen, a month, and optionally a hyphen and two or four digits;
-- or a month, an optional hyphen and a day;
-- or two or three groups of digits joined by hyphens, each of one to four digits
abbrev pub date : Texts
date =
    (day then optional hyphen then month then optional (hyphen then two_or_four_digits))
    or (month then optional hyphen then day)
    or (group then hyphen then group then optional (hyphen then group))
