-- `batches::taste_all` meets its contract. The invariant: the values passed are added up. Assumes nothing.
use Rattle.std.proofs.Common.{◌≡◌, ◌-◌, ◌≤◌, sym, ap, ◌∙◌, arith}
use Rattle.column.proofs.FitLaws.{fits-listed, fits-view}
use Rattle.column.specs.Lent.{lent_of}
use Rattle.column.proofs.SpotLaws.{found-lies}
use Rattle.batches.specs.Batches.{taste_rows}
use Rattle.batches.proofs.Laws.{taste-first, taste-more, spot-value}
use Rattle.batches.proofs.taste_all.Given as goal

abbrev pub invariant-loop-k : goal.invariant-loop-k
invariant-loop-k l = l.sum ≡ taste_rows (lent_of l.l) l.c l.k
