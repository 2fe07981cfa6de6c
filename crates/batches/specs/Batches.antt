-- What the batches answer: rows below the next one, and values tasted. Assumes nothing.
use Rattle.std.specs.Prelude.{ℕ, zero, suc, ◌+◌, ◌-◌, ◌%◌, ◌^◌, Bool, true, false, List, length, ◌==◌, slice_index}
use Rattle.basis.specs.Pick.{pick}
use Rattle.order.specs.Order.{Order}
use Rattle.std.proofs.Common.{Less, Equal, Greater}
use Rattle.column.specs.declared.Column.{Column}
use Rattle.column.specs.Lent.{Lent, fits}
use Rattle.reading.specs.Reading.{value_at}
use Rattle.comparison.specs.Compare.{compare_rows}
use Rattle.exports.specs.Exported.{compared_number}

abbrev pub is_less : Order → Bool
is_less Less = true
is_less Equal = false
is_less Greater = false

-- how many of the first n rows are below the one after them
unfoldable pub less_rows : Lent → Column → ℕ → ℕ
less_rows l c zero = 0
less_rows l c (suc n) = less_rows l c n + pick (compared_number (compare_rows l c n l c (n + 1)) == 0) 1 0

unfoldable pub less_batch : Lent → Column → ℕ
less_batch l c = pick (fits l c) (less_rows l c (c.rows - 1)) 0

-- the lengths and the first bytes of the values of the first n rows, added up
unfoldable pub taste_of : List ℕ → ℕ
taste_of x = (length x + slice_index x 0) % 2 ^ 64

unfoldable pub taste_rows : Lent → Column → ℕ → ℕ
taste_rows l c zero = 0
taste_rows l c (suc n) = (taste_rows l c n + taste_of (value_at l c n)) % 2 ^ 64

unfoldable pub taste_batch : Lent → Column → ℕ
taste_batch l c = pick (fits l c) (taste_rows l c c.rows) 0
