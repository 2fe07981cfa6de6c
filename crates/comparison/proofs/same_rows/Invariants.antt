-- `comparison::same_rows` meets its contract. The invariant: the rows passed are the same. Assumes nothing.
use mathlib.Core.Bool.{true}
use mathlib.Core.Path.{◌≡◌}
use Rattle.column.specs.Lent.{lent_of}
use Rattle.comparison.specs.Same.{same_rows}
use Rattle.comparison.proofs.same_rows.Given as goal

abbrev pub invariant-loop-k : goal.invariant-loop-k
invariant-loop-k l = same_rows (lent_of l.l) l.c (lent_of l.m) l.d l.k ≡ true
