-- The program's answer: the bytes that it writes, of the bytes that it reads. Assumes nothing.
use Rattle.bounds.specs.declared.Refusal.{Refusal}
use Rattle.std.specs.Prelude.{Bool, true, false, List, [], ◌∷◌, ◌++◌, map, ℕ, zero, suc, ◌+◌, ◌-◌, leb, ltb, eqb, length, take, drop, Result}
use Rattle.std.specs.Result.{result_unwrap_or}
use Rattle.basis.specs.Pick.{pick}
use Rattle.views.specs.View.{is_short}
use Rattle.column.specs.declared.Column.{Column}
use Rattle.column.specs.Lent.{Lent}
use Rattle.reading.specs.Reading.{bit_of, value_at, null_run, total_bytes_len, total_buffer_bytes_used}
use Rattle.listing.specs.Text.{row_line, gap_line, opening, closing, refused_line}
use Rattle.shelf.specs.declared.Line.{Line}
use Rattle.shelf.specs.declared.Line.TheVariants.{Code, Null, Bad}
use Rattle.shelf.specs.Lines.{lines, says, value_of, first_bad_line}

-- a row: whether it isn't null, and its bytes
pub record ShelfRow : Type 0 where
  pub valid : Bool
  pub value : List ℕ

abbrev pub row : Bool → List ℕ → ShelfRow
row v x = record { valid = v; value = x }

abbrev pub is_code : Line → Bool
is_code Code = true
is_code Null = false
is_code Bad = false

-- the row that a line says; nothing follows `null=`
abbrev pub row_said : List ℕ → ShelfRow
row_said l = row (is_code (says l)) (value_of l)

-- a line for each row
unfoldable pub row_lines : List ShelfRow → List ℕ
row_lines [] = []
row_lines (r ∷ rs) = row_line r.valid r.value ++ row_lines rs

-- all rows, or above twenty the first and last ten with the number of the others between
unfoldable pub body : List ShelfRow → List ℕ
body rs =
    pick (leb (length rs) 20) (row_lines rs)
    (row_lines (take 10 rs) ++ (gap_line (length rs - 20) ++ row_lines (take 10 (drop (length rs - 10) rs))))

-- null rows
unfoldable pub nulls_in : List ShelfRow → ℕ
nulls_in [] = 0
nulls_in (r ∷ rs) = pick r.valid 0 1 + nulls_in rs

-- the lengths of the rows that aren't null
unfoldable pub valid_bytes : List ShelfRow → ℕ
valid_bytes [] = 0
valid_bytes (r ∷ rs) = pick r.valid (length r.value) 0 + valid_bytes rs

-- the lengths of the long ones
unfoldable pub block_bytes_in : List ShelfRow → ℕ
block_bytes_in [] = 0
block_bytes_in (r ∷ rs) = pick (is_short (length r.value)) 0 (length r.value) + block_bytes_in rs

-- all long values of 16,384 bytes of input lie in the first block
unfoldable pub blocks_used : List ShelfRow → ℕ
blocks_used rs = pick (eqb (block_bytes_in rs) 0) 0 1

-- the listing, then rows=, nulls=, bytes=, block_bytes=, blocks=
unfoldable pub listed : List ShelfRow → List ℕ
listed rs = opening ++ (body rs ++ closing (length rs) (nulls_in rs) (valid_bytes rs) (block_bytes_in rs) (blocks_used rs))

-- the first bad line, or the rows
unfoldable pub answer_lines : List (List ℕ) → List ℕ
answer_lines ls = pick (eqb (first_bad_line 0 ls) 0) (listed (map row_said ls)) (refused_line (first_bad_line 0 ls))

-- how many bytes of input there may be
abbrev pub input_most : ℕ
input_most = 16384

-- more input is refused before any line is read
unfoldable pub shelf_answer : List ℕ → List ℕ
shelf_answer s = pick (ltb input_most (length s)) (refused_line 0) (answer_lines (lines s))

-- ---- the same of a column

-- a row whose bit is refused has no value
abbrev pub bit_valid : Result Bool Refusal → Bool
bit_valid v = result_unwrap_or v false

abbrev pub shelf_row_at : Lent → Column → ℕ → ShelfRow
shelf_row_at l c r = row (bit_valid (bit_of l c r)) (value_at l c r)

unfoldable pub rows_from : Lent → Column → ℕ → ℕ → List ShelfRow
rows_from l c r zero = []
rows_from l c r (suc n) = shelf_row_at l c r ∷ rows_from l c (suc r) n

abbrev pub shelf_rows : Lent → Column → List ShelfRow
shelf_rows l c = rows_from l c 0 c.rows

abbrev pub number_is : Result ℕ Refusal → ℕ
number_is n = result_unwrap_or n 0

abbrev pub closing_of : Lent → Column → List ℕ
closing_of l c = closing c.rows (number_is (null_run l c 0 c.rows)) (number_is (total_bytes_len l c)) (number_is (total_buffer_bytes_used l c)) c.blocks

unfoldable pub listed_column : Lent → Column → List ℕ
listed_column l c = opening ++ (body (shelf_rows l c) ++ closing_of l c)
