use Rattle.std.proofs.Common.{ℕ, ◌<◌}
use Rattle.utf8.specs.Cut.{Begins}
use Rattle.offsets.specs.Offsets.{offset_at}
use Rattle.offsets.specs.Steps.{width}
use Rattle.offsets.proofs.Input.on_bounds.Given as goal

abbrev pub invariant-loop-j : goal.invariant-loop-j
invariant-loop-j l = (i : ℕ) → i < l.j → Begins l.self.bytes.now (offset_at (width l.self) l.self.offsets.now i)
