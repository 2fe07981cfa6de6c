use Rattle.builder.specs.State.{held, fits_state}
use Rattle.builder.specs.Rooms.{room_of_rows}
use mathlib.Core.Path.{◌≡◌}
use mathlib.Core.Bool.{true}
use Prim.Native.Nat.{◌≤◌}
use lib.ListN.{length}
use Rattle.building_batches.proofs.tambuyeel_build.Given as goal

abbrev pub invariant-loop-e : goal.invariant-loop-e
invariant-loop-e l = (l.a ≤ length l.all) × (fits_state (held l.s l.views l.bytes l.starts l.lens l.nulls l.places) ≡ true)
    × (l.room ≡ room_of_rows l.s.merging (length l.views) (length l.nulls) (length l.places))
