-- Where the value of a row stands while it is built, and where the part is that get_value answers. Assumes nothing.
use Rattle.std.specs.Prelude.{ℕ}
use Rattle.bounds.specs.Refusals.{if_accepted}
use Rattle.views.specs.View.{view_at}
use Rattle.column.specs.declared.Spot.{Spot}
use Rattle.column.specs.Lent.{Lent}
use Rattle.column.specs.Spot.{spot_in, points_to, further}
use Rattle.builder.specs.declared.State.{State}
use Rattle.builder.specs.State.{Builder, all_blocks, recorded}
use Rattle.builder.specs.Get.{why_get}

-- the open block under the next number
abbrev pub spot_row : State → Lent → ℕ → Spot
spot_row s l r = spot_in (recorded s l) (all_blocks s) (view_at l.views r) r

-- by where the views and the data are; a refused part is an empty one of the views, at their start
unfoldable pub get_points : Builder → ℕ → ℕ × ℕ → ℕ × ℕ → ℕ × ℕ
get_points b r views bytes = if_accepted (why_get b r) (points_to views bytes (spot_row b.state b.lent r)) (further views 0)
