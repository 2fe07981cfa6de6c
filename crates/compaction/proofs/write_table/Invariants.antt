use Rattle.std.proofs.Common.{◌≡◌, ◌+◌, length}
use Rattle.views.specs.View.{view_at}
use Rattle.compaction.specs.Steps.{CutTabled}
use Rattle.compaction.proofs.write_table.Given as goal

abbrev pub invariant-loop-k : goal.invariant-loop-k
invariant-loop-k l = record {
  starts : length l.newstarts ≡ length l.initial.newstarts;
  lens : length l.newlens ≡ length l.initial.newlens;
  tabled : CutTabled l.most (λ r. view_at l.views (l.c.first + r)) l.initial.newstarts l.initial.newlens l.k l.newstarts l.newlens l.s;
}
