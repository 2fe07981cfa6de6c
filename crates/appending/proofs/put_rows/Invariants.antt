use Rattle.views.specs.View.{view_at}
use Rattle.builder.specs.Others.{renumbered}
use Rattle.appending.specs.Laying.{put_from}
use Prim.Native.Nat.{◌+◌, ◌≤◌}
use lib.ListN.{length}
use mathlib.Core.Path.{◌≡◌}
use Rattle.appending.proofs.put_rows.Given as goal

abbrev pub invariant-loop-k : goal.invariant-loop-k
invariant-loop-k l = (l.k ≤ l.n) × (length l.views ≡ length l.initial.views)
    × (l.views ≡ put_from (λ q. renumbered l.before (view_at l.src (l.from + q))) l.k l.initial.views l.to)
