use Rattle.std.proofs.Common.{◌≡◌, ℕ, ◌+◌, ◌*◌, ◌≤◌, ◌<◌, true}
use Rattle.column.specs.Meaning.{row_view}
use Rattle.column.specs.Room.{bare_of}
use Rattle.column.specs.Truth.{true_at}
use Rattle.compaction.specs.Steps.{stand_at}
use Rattle.compaction.proofs.measure.Given as goal

abbrev pub invariant-loop-k : goal.invariant-loop-k
invariant-loop-k l = record {
  truth : (r : ℕ) → r < l.k → true_at l.c.kind (bare_of l.l) l.c r ≡ true;
  stand : l.s ≡ stand_at l.most (row_view (bare_of l.l) l.c) l.k;
  bytes : l.s.base + l.s.fill ≤ 4294967296 * l.k;
  blocks : l.s.closed ≤ l.k;
}
