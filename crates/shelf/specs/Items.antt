-- Which line of a listing says what, and how a value's text is parted. Assumes nothing.
use Rattle.std.specs.Prelude.{ℕ, ◌+◌, ◌-◌, min, leb, ltb, eqb}
use Rattle.basis.specs.Pick.{pick}
use Rattle.shelf.specs.declared.Item.{Item}
use Rattle.shelf.specs.declared.Item.TheVariants.{Row, Gap}

-- all rows, or above twenty the first ten, the gap, and the last ten
unfoldable pub item_count : ℕ → ℕ
item_count rows = pick (leb rows 20) rows 21

unfoldable pub item_at : ℕ → ℕ → Item
item_at rows k = pick (leb rows 20) (Row k) (pick (ltb k 10) (Row k) (pick (eqb k 10) (Gap (rows - 20)) (Row (rows - 21 + k))))

unfoldable pub part_end : ℕ → ℕ → ℕ
part_end n at = min n (at + 800)
