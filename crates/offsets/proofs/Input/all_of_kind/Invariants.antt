use Rattle.std.proofs.Common.{◌≡◌, true}
use Rattle.offsets.specs.Steps.{all_kinds, width, source_of}
use Rattle.offsets.proofs.Input.all_of_kind.Given as goal

abbrev pub invariant-loop-j : goal.invariant-loop-j
invariant-loop-j l = all_kinds (width l.self) (source_of l.self) l.kind l.j ≡ true
