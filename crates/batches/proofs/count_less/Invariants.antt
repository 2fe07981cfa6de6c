-- `batches::count_less` meets its contract. The invariant: the rows passed are counted, and it is known whether the next one is reachable. Assumes nothing.
use Rattle.std.proofs.Common.{◌≡◌, ◌-◌, ◌≤◌, sym, ◌∙◌, arith, rules}
use Rattle.bounds.specs.Bounds.{row-limit-small}
use Rattle.column.proofs.FitLaws.{fits_gives, fits-listed}
use Rattle.column.specs.Lent.{lent_of}
use Rattle.column.proofs.SpotLaws.{found-reach}
use Rattle.column.specs.Truth.{reachable_at}
use Rattle.batches.specs.Batches.{less_rows}
use Rattle.batches.proofs.Laws.{less_none, less-more, no_rows}
use Rattle.batches.proofs.count_less.Given as goal

abbrev pub invariant-loop-k : goal.invariant-loop-k
invariant-loop-k l = (l.n ≤ l.k) × (l.n ≡ less_rows (lent_of l.l) l.c l.k) × (l.good ≡ reachable_at (lent_of l.l) l.c l.k)
