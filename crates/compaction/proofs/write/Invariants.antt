use Rattle.std.proofs.Common.{◌≡◌, length}
use Rattle.column.specs.Meaning.{row_view}
use Rattle.column.specs.Room.{bare_of}
use Rattle.compaction.specs.Compact.{row_shown}
use Rattle.compaction.specs.Steps.{Laid}
use Rattle.compaction.proofs.write.Given as goal

abbrev pub invariant-loop-k : goal.invariant-loop-k
invariant-loop-k l = record {
  views : length l.newviews ≡ length l.initial.newviews;
  bytes : length l.newbytes ≡ length l.initial.newbytes;
  laid : Laid l.most (row_view (bare_of l.l) l.c) (row_shown (bare_of l.l) l.c) l.initial.newviews l.initial.newbytes l.k l.newviews l.newbytes l.s;
}
