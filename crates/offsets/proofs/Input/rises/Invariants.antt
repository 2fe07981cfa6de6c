use Rattle.std.proofs.Common.{◌≡◌, true}
use Rattle.offsets.specs.Offsets.{offset_at}
use Rattle.offsets.specs.Steps.{rising, width}
use Rattle.offsets.proofs.Input.rises.Given as goal

abbrev pub invariant-loop-j : goal.invariant-loop-j
invariant-loop-j l = record {
  last : l.last ≡ offset_at (width l.self) l.self.offsets.now l.j;
  rise : rising (width l.self) l.self.offsets.now l.j ≡ true;
}
