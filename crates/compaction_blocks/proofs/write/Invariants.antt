use Rattle.std.proofs.Common.{◌≡◌, length}
use Rattle.column.specs.Meaning.{row_view}
use Rattle.compaction.specs.Compact.{row_shown}
use Rattle.compaction.specs.Steps.{Laid}
use Rattle.compaction_blocks.specs.Records.{source_of}
use Rattle.compaction_blocks.proofs.write.Given as goal

abbrev pub invariant-loop-k : goal.invariant-loop-k
invariant-loop-k l = record {
  views : length l.newviews ≡ length l.initial.newviews;
  bytes : length l.newbytes ≡ length l.initial.newbytes;
  laid : Laid l.most (row_view (source_of l.l) l.c) (row_shown (source_of l.l) l.c) l.initial.newviews l.initial.newbytes l.k l.newviews l.newbytes l.s;
}
