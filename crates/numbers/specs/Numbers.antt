-- Columns, verdicts and places as the numbers that C and Rust see. Assumes nothing.
use Rattle.std.specs.Prelude.{Bool, true, false, not, List, [], ◌∷◌, ℕ, eqb, get_or, Ok, Err}
use Rattle.basis.specs.Pick.{pick}
use Rattle.bounds.specs.Refusals.{number_of, row_named, Why}
use Rattle.column.specs.declared.Kind.{Kind}
use Rattle.column.specs.declared.Kind.TheVariants.{Binary, Text}
use Rattle.column.specs.declared.Column.{Column}
use Rattle.column.specs.declared.Spot.{Spot}
use Rattle.column.specs.declared.Spot.TheVariants as spot
use Rattle.numbers.specs.declared.Told.{Told}
use Rattle.numbers.specs.declared.Place.{Place}

-- ---- in: 0 is the first of two, anything else the second

abbrev pub kind_by : Bool → Kind
kind_by true = Binary
kind_by false = Text

unfoldable pub kind_from : ℕ → Kind
kind_from k = kind_by (eqb k 0)

-- first row, rows, blocks, kind, whether it has a map
unfoldable pub column_from : List ℕ → Column
column_from l = record { first = get_or l 0 0; rows = get_or l 1 0; blocks = get_or l 2 0; kind = kind_from (get_or l 3 0); mapped = not (eqb (get_or l 4 0) 0) }

-- ---- out

abbrev pub kind_number : Kind → ℕ
kind_number Binary = 0
kind_number Text = 1

abbrev pub flag : Bool → ℕ
flag b = pick b 1 0

unfoldable pub column_numbers : Column → List ℕ
column_numbers c = c.first ∷ c.rows ∷ c.blocks ∷ kind_number c.kind ∷ flag c.mapped ∷ []

abbrev pub told : ℕ → ℕ → Told
told n r = record { number = n; row = r }

-- 0 where the call is accepted
abbrev pub why_told : Why → Told
why_told (Ok _) = told 0 0
why_told (Err r) = told (number_of r) (row_named r)

abbrev pub place : ℕ → ℕ → ℕ → ℕ → Place
place refused buffer offset len = record { refused = refused; buffer = buffer; offset = offset; len = len }

-- in the views (buffer 0), or in the data (1)
abbrev pub place_of : Spot → Place
place_of (spot.View o n) = place 0 0 o n
place_of (spot.Data o n) = place 0 1 o n
place_of spot.NoBlock = place 0 0 0 0
place_of spot.Outside = place 0 0 0 0
