use Rattle.std.proofs.Common.{◌≡◌, ◌+◌, length}
use Rattle.views.specs.View.{view_at}
use Rattle.compaction.specs.Steps.{CutTabled}
use Rattle.compaction_blocks.specs.Records.{starts_in, lens_in}
use Rattle.compaction_blocks.proofs.write_table.Given as goal

abbrev pub invariant-loop-k : goal.invariant-loop-k
invariant-loop-k l = record {
  places : length l.newtable ≡ length l.initial.newtable;
  tabled : CutTabled l.most (λ r. view_at l.views (l.c.first + r)) (starts_in l.initial.newtable) (lens_in l.initial.newtable) l.k (starts_in l.newtable) (lens_in l.newtable) l.s;
}
