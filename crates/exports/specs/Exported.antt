-- Columns and answers as the numbers that C and Rust see. Assumes nothing.
use Rattle.bounds.specs.declared.Refusal.{Refusal}
use Rattle.comparison.specs.declared.Side.TheVariants.{Left, Right}
use Rattle.comparison.specs.declared.Side.{Side}
use Rattle.std.specs.Prelude.{Bool, true, false, List, ℕ, ◌+◌, eqb, take, drop, Ok, Err, Result}
use Rattle.basis.specs.Pick.{pick}
use Rattle.bounds.specs.Refusals.{number_of, row_named}
use Rattle.order.specs.Order.{Order}
use Rattle.std.proofs.Common.{Less, Equal, Greater}
use Rattle.column.specs.declared.Column.{Column}
use Rattle.column.specs.declared.Spot.{Spot}
use Rattle.column.specs.Lent.{Lent}
use Rattle.reading.specs.Reading.{located_at}
use Rattle.numbers.specs.declared.Told.{Told}
use Rattle.numbers.specs.declared.Place.{Place}
use Rattle.numbers.specs.Numbers.{told, place, place_of}

abbrev pub order_number : Order → ℕ
order_number Less = 0
order_number Equal = 1
order_number Greater = 2

-- a refusal's number is 16 higher on the left column, 32 higher on the right one
abbrev pub compared_number : Result Order Side → ℕ
compared_number (Ok o) = order_number o
compared_number (Err (Left r)) = 16 + number_of r
compared_number (Err (Right r)) = 32 + number_of r

abbrev pub same_told : Result Bool Side → Told
same_told (Ok false) = told 0 0
same_told (Ok true) = told 1 0
same_told (Err (Left r)) = told (16 + number_of r) (row_named r)
same_told (Err (Right r)) = told (32 + number_of r) (row_named r)

abbrev pub place_told : Result Spot Refusal → Place
place_told (Ok s) = place_of s
place_told (Err r) = place (number_of r) 0 0 0

unfoldable pub place_at : Lent → Column → ℕ → Place
place_at l c r = place_told (located_at l c r)

-- the bytes that a place names
unfoldable pub named : Lent → Place → List ℕ
named l p = take p.len (drop p.offset (pick (eqb p.buffer 0) l.views l.bytes))
