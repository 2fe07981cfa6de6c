-- A column over lent buffers that shows values and bits. Assumes nothing.
use Rattle.std.specs.Prelude.{◌≡◌, Bool, true, ℕ, List}
use Rattle.column.specs.declared.Column.{Column}
use Rattle.column.specs.Lent.{Lent, fits}
use Rattle.column.specs.Meaning.{blocks_of}
use Rattle.column.specs.Laid.{views_of, bits_of}
use Rattle.showing.specs.Rows.{Rows}
use Rattle.showing.specs.Truths.{AllIn}

-- the rows show the values xs, their bits are bs, the column fits the buffers, and its blocks lie in the data
pub record Shows (l : Lent) (c : Column) (xs : List (List ℕ)) (bs : List Bool) : Type 0 where
  pub rows : Rows (blocks_of l c.blocks) (views_of l c) xs
  pub bits : bits_of l c ≡ bs
  pub fitted : fits l c ≡ true
  pub inside : AllIn l c.blocks
