use mathlib.Core.Path.{◌≡◌}
use lib.ListN.{length, take}
use mathlib.Core.List.{◌++◌}
use Prim.Native.Nat.{◌*◌, ◌-◌, ◌≤◌}
use Rattle.listing.specs.Text.{text_from}
use Rattle.listing.proofs.row_part.Given as goal

abbrev pub invariant-loop-k : goal.invariant-loop-k
invariant-loop-k l = (l.w ≤ 5 * (l.k - l.from)) × (length l.out ≡ length l.initial.out)
    × (take l.w l.out ++ text_from l.x l.k ≡ text_from l.x l.from)
