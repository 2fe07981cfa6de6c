use Rattle.std.proofs.Common.{◌≡◌, length}
use Rattle.laying.specs.Written.{put_rows}
use Rattle.offsets.specs.Offsets.{row_view_of}
use Rattle.offsets.specs.Steps.{width, source_of}
use Rattle.offsets.proofs.Input.write.Given as goal

abbrev pub invariant-loop-j : goal.invariant-loop-j
invariant-loop-j l = record {
  long : length l.newviews ≡ length l.initial.newviews;
  put : l.newviews ≡ put_rows l.initial.newviews (row_view_of (width l.self) (source_of l.self)) l.j;
}
