-- The text of a listing, as bytes of ASCII: numbers, values, rows, the gap, and the closing lines. Assumes nothing.
use Rattle.std.specs.Prelude.{Bool, true, false, List, [], ◌∷◌, ◌++◌, ℕ, zero, suc, ◌+◌, ◌/◌, ◌%◌, ltb, drop}
use Rattle.basis.specs.Pick.{pick}

-- the digits of n; as many as there are, at most fuel
unfoldable pub digits : ℕ → ℕ → List ℕ
digits zero n = []
digits (suc fuel) n = pick (ltb n 10) [] (digits fuel (n / 10)) ++ (48 + n % 10) ∷ []

unfoldable pub decimal : ℕ → List ℕ
decimal n = digits (suc n) n

-- ", " and a number for each byte
unfoldable pub more_text : List ℕ → List ℕ
more_text [] = []
more_text (b ∷ x) = 44 ∷ 32 ∷ decimal b ++ more_text x

-- the bytes of a value with ", " between them
unfoldable pub bytes_text : List ℕ → List ℕ
bytes_text [] = []
bytes_text (b ∷ x) = decimal b ++ more_text x

-- "  [", "],", "  null,", each with its line end
unfoldable pub row_open : List ℕ
row_open = 32 ∷ 32 ∷ 91 ∷ []

unfoldable pub row_close : List ℕ
row_close = 93 ∷ 44 ∷ 10 ∷ []

unfoldable pub row_null : List ℕ
row_null = 32 ∷ 32 ∷ 110 ∷ 117 ∷ 108 ∷ 108 ∷ 44 ∷ 10 ∷ []

-- a row's line: its bytes in brackets, or null
unfoldable pub row_line : Bool → List ℕ → List ℕ
row_line true x = row_open ++ (bytes_text x ++ row_close)
row_line false x = row_null

-- "  ...N elements...,"
unfoldable pub gap_line : ℕ → List ℕ
gap_line n =
    (32 ∷ 32 ∷ 46 ∷ 46 ∷ 46 ∷ [])
    ++ (decimal n ++ (32 ∷ 101 ∷ 108 ∷ 101 ∷ 109 ∷ 101 ∷ 110 ∷ 116 ∷ 115 ∷ 46 ∷ 46 ∷ 46 ∷ 44 ∷ 10 ∷ []))

-- "BinaryViewArray", "["
unfoldable pub opening : List ℕ
opening = 66 ∷ 105 ∷ 110 ∷ 97 ∷ 114 ∷ 121 ∷ 86 ∷ 105 ∷ 101 ∷ 119 ∷ 65 ∷ 114 ∷ 114 ∷ 97 ∷ 121 ∷ 10 ∷ 91 ∷ 10 ∷ []

-- a name, a number, a line end
unfoldable pub number_line : List ℕ → ℕ → List ℕ
number_line name n = name ++ (decimal n ++ 10 ∷ [])

abbrev pub rows_name : List ℕ
rows_name = 114 ∷ 111 ∷ 119 ∷ 115 ∷ 61 ∷ []

abbrev pub nulls_name : List ℕ
nulls_name = 110 ∷ 117 ∷ 108 ∷ 108 ∷ 115 ∷ 61 ∷ []

abbrev pub bytes_name : List ℕ
bytes_name = 98 ∷ 121 ∷ 116 ∷ 101 ∷ 115 ∷ 61 ∷ []

abbrev pub block_bytes_name : List ℕ
block_bytes_name = 98 ∷ 108 ∷ 111 ∷ 99 ∷ 107 ∷ 95 ∷ 98 ∷ 121 ∷ 116 ∷ 101 ∷ 115 ∷ 61 ∷ []

abbrev pub blocks_name : List ℕ
blocks_name = 98 ∷ 108 ∷ 111 ∷ 99 ∷ 107 ∷ 115 ∷ 61 ∷ []

-- "]", and the lines rows=, nulls=, bytes=, block_bytes=, blocks=
unfoldable pub closing : ℕ → ℕ → ℕ → ℕ → ℕ → List ℕ
closing rows nulls bytes block_bytes blocks =
    (93 ∷ 10 ∷ [])
    ++ (number_line rows_name rows
    ++ (number_line nulls_name nulls
    ++ (number_line bytes_name bytes
    ++ (number_line block_bytes_name block_bytes
    ++ number_line blocks_name blocks))))

-- refused=
unfoldable pub refused_line : ℕ → List ℕ
refused_line n = number_line (114 ∷ 101 ∷ 102 ∷ 117 ∷ 115 ∷ 101 ∷ 100 ∷ 61 ∷ []) n

-- ---- the pieces of a value's text

-- what is left of a value's text at byte k
unfoldable pub text_from : List ℕ → ℕ → List ℕ
text_from x zero = bytes_text x
text_from x (suc k) = more_text (drop (suc k) x)

-- byte k of a value, with what parts it from the byte before
unfoldable pub item_text : ℕ → ℕ → List ℕ
item_text zero b = decimal b
item_text (suc k) b = 44 ∷ 32 ∷ decimal b
