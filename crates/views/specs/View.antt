-- View records: the fields of a view's sixteen bytes, the views of short and long values, and the view of a row. Assumes nothing.
use Rattle.std.specs.Prelude.{List, [], ◌++◌, Bool, ℕ, ◌*◌, leb, length, take, drop}
use Rattle.basis.specs.Pick.{pick}
use Rattle.words.specs.Words.{word_at, enc, pad}

-- bytes of a view
abbrev pub view_size : ℕ
view_size = 16

-- the longest value that its view holds whole
abbrev pub short_most : ℕ
short_most = 12

abbrev pub is_short : ℕ → Bool
is_short n = leb n short_most

-- the fields of a view: the value's length, a short value and its padding, a long value's first bytes, block number and offset
unfoldable pub length_of : List ℕ → ℕ
length_of v = word_at v 0 4

unfoldable pub body_of : List ℕ → List ℕ
body_of v = drop 4 v

unfoldable pub prefix_of : List ℕ → List ℕ
prefix_of v = take 4 (drop 4 v)

unfoldable pub block_of : List ℕ → ℕ
block_of v = word_at v 8 4

unfoldable pub offset_of : List ℕ → ℕ
offset_of v = word_at v 12 4

-- the view of a short value, and of a long one that stands at an offset of a block
unfoldable pub short_view : List ℕ → List ℕ
short_view x = enc 4 (length x) ++ pad short_most x

unfoldable pub long_view : List ℕ → ℕ → ℕ → List ℕ
long_view x block offset = enc 4 (length x) ++ (pad 4 x ++ (enc 4 block ++ enc 4 offset))

unfoldable pub make_view : List ℕ → ℕ → ℕ → List ℕ
make_view x block offset = pick (is_short (length x)) (short_view x) (long_view x block offset)

-- the view of a null row
unfoldable pub zero_view : List ℕ
zero_view = pad view_size []

-- the view of a row, counted from the first of the views
unfoldable pub view_at : List ℕ → ℕ → List ℕ
view_at views row = take view_size (drop (view_size * row) views)
