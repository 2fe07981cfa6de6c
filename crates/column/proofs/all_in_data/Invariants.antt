-- `column::all_in_data` meets its contract. Assumes nothing.
use mathlib.Core.Bool.{true}
use mathlib.Core.List.{[]}
use mathlib.Core.Path.{◌≡◌}
use Rattle.column.specs.Lent.{all_in_data}
use Rattle.column.specs.Room.{bare}
use Rattle.column.proofs.all_in_data.Given as goal

abbrev pub invariant-loop-k : goal.invariant-loop-k
invariant-loop-k l = all_in_data (bare [] l.bytes l.starts l.lens) l.k ≡ true
