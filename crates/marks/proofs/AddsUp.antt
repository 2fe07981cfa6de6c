-- Each row has one mark: the four counts of a column add up to its rows. Assumes nothing.
use mathlib.Core.Path.{◌≡◌, refl}
use Prim.Native.Nat.{ℕ, zero, suc, ◌+◌}
use native.Mathlib.Omega.{arith}
use Rattle.basis.specs.Pick.{pick}
use Rattle.column.specs.declared.Column.{Column}
use Rattle.column.specs.Lent.{Lent}
use Rattle.codes.specs.declared.Mark.{Mark}
use Rattle.codes.specs.declared.Mark.TheVariants.{Null, Other, Code, Date}
use Rattle.marks.specs.declared.Tally.{Tally}
use Rattle.marks.specs.Marking.{row_mark, is_mark, count_mark, tally_of}

abbrev rows_in : Tally → ℕ
rows_in t = t.nulls + t.others + t.codes + t.dates

-- a mark is one of the four
abbrev ones : Mark → ℕ
ones m = pick (is_mark Null m) 1 0 + pick (is_mark Other m) 1 0 + pick (is_mark Code m) 1 0 + pick (is_mark Date m) 1 0

one_each : (m : Mark) → ones m ≡ 1
one_each Null = refl
one_each Other = refl
one_each Code = refl
one_each Date = refl

-- of the first n rows of any column, over any buffers
pub adds-up : (l : Lent) (c : Column) (n : ℕ) → rows_in (tally_of l c n) ≡ n
unfolding count_mark
adds-up l c zero = refl
adds-up l c (suc n) = omega (arith, adds-up l c n, one_each (row_mark l c n))

-- and so of all of them
pub counts-all-rows : (l : Lent) (c : Column) → rows_in (tally_of l c c.rows) ≡ c.rows
counts-all-rows l c = adds-up l c c.rows
