-- Where the writing of an answer stands, what is left of it from there on, and what it means that a piece was written. Assumes nothing.
use Rattle.std.specs.Prelude.{◌≡◌, Bool, true, false, List, [], ◌++◌, ℕ, suc, ◌+◌, ◌-◌, ◌≤◌, ltb, length, take}
use Rattle.basis.specs.Pick.{pick}
use Rattle.column.specs.declared.Column.{Column}
use Rattle.column.specs.Lent.{Lent}
use Rattle.reading.specs.Reading.{value_at}
use Rattle.listing.specs.Text.{text_from, row_close, refused_line}
use Rattle.shelf.specs.declared.Item.{Item}
use Rattle.shelf.specs.declared.Item.TheVariants as item
use Rattle.shelf.specs.Items.{item_count, item_at}
use Rattle.whole.specs.declared.Place.{Place}
use Rattle.whole.specs.declared.Place.TheVariants.{Refused, Opening, Line, Part, End}
use Rattle.whole.specs.declared.Piece.{Piece}
use Rattle.whole.specs.Answer.{shelf_rows, closing_of, listed_column}
use Rattle.whole.specs.Pieces.{item_lines}

-- line k of the listing and those after it, then the closing lines
unfoldable pub lines_from : Lent → Column → ℕ → List ℕ
lines_from l c k = item_lines (shelf_rows l c) k (item_count c.rows - k) ++ closing_of l c

-- the value on a line
abbrev pub item_value : Lent → Column → Item → List ℕ
item_value l c (item.Row r) = value_at l c r
item_value l c (item.Gap n) = []

-- of line k, what is left of its value's text at byte `at`, and its end; then the lines after it. Past the lines there is nothing
unfoldable pub parts_from : Lent → Column → ℕ → ℕ → List ℕ
parts_from l c k at = pick (ltb k (item_count c.rows)) (text_from (item_value l c (item_at c.rows k)) at ++ (row_close ++ lines_from l c (suc k))) []

abbrev pub rest_of : Lent → Column → Place → List ℕ
rest_of l c (Refused n) = refused_line n
rest_of l c Opening = listed_column l c
rest_of l c (Line k) = lines_from l c k
rest_of l c (Part k at) = parts_from l c k at
rest_of l c End = []

abbrev pub is_end : Place → Bool
is_end (Refused n) = false
is_end Opening = false
is_end (Line k) = false
is_end (Part k at) = false
is_end End = true

-- a place that isn't the end is one step from it at least
abbrev pub steps : Place → ℕ
steps p = pick (is_end p) 0 1

-- what grows less with each piece
abbrev pub weight : Lent → Column → Place → ℕ
weight l c p = steps p + length (rest_of l c p)

abbrev pub piece : Place → ℕ → Piece
piece p n = record { place = p; written = n }

-- a piece of a text stands at the start of a buffer: with what is left after it, it is the text; and it isn't empty, unless it is the last
pub record WrotePiece (l : Lent) (c : Column) (all out : List ℕ) (r : Piece) : Type 0 where
  pub text : take r.written out ++ rest_of l c r.place ≡ all
  pub low : r.written ≤ length out
  pub counts : r.written ≡ length (take r.written out)
  pub moves : steps r.place ≤ r.written
