-- Which views are reachable, and which are true. Assumes nothing.
use Rattle.std.specs.Prelude.{Bool, true, false, not, ◌&&◌, List, [], ◌∷◌, ℕ, zero, suc, eqb, take, drop}
use Rattle.basis.specs.Pick.{pick}
use Rattle.order.specs.Order.{same}
use Rattle.utf8.specs.Table.{well_formed}
use Rattle.views.specs.View.{length_of, prefix_of, body_of, is_short}
use Rattle.bounds.specs.Refusals.{refuse, Why}
use Rattle.bounds.specs.declared.Refusal.TheVariants.{BadView}
use Rattle.column.specs.declared.Kind.{Kind}
use Rattle.column.specs.declared.Kind.TheVariants.{Binary, Text}
use Rattle.column.specs.declared.Column.{Column}
use Rattle.column.specs.declared.Reach.{Reach}
use Rattle.column.specs.declared.Reach.TheVariants.{Inside, NoBlock, Outside}
use Rattle.column.specs.declared.Spot.{Spot}
use Rattle.column.specs.declared.Spot.TheVariants as spot
use Rattle.column.specs.Lent.{Lent}
use Rattle.column.specs.Spot.{spot_in}
use Rattle.column.specs.Meaning.{row_view, blocks_of, shown}

-- what stands somewhere is reached
abbrev pub reach_by : Spot → Reach
reach_by (spot.View o n) = Inside
reach_by (spot.Data o n) = Inside
reach_by spot.NoBlock = NoBlock
reach_by spot.Outside = Outside

-- how far a view reaches over the first n blocks; the row doesn't matter
unfoldable pub reach_of : Lent → ℕ → List ℕ → Reach
reach_of l n v = reach_by (spot_in l n v 0)

abbrev pub is_inside : Reach → Bool
is_inside Inside = true
is_inside NoBlock = false
is_inside Outside = false

unfoldable pub reachable : Lent → ℕ → List ℕ → Bool
reachable l n v = is_inside (reach_of l n v)

unfoldable pub zeros : List ℕ → Bool
zeros [] = true
zeros (b ∷ bs) = eqb b 0 && zeros bs

-- a short value has zeros after it, a long one its first four bytes in the view
unfoldable pub honest : List ℕ → List ℕ → Bool
honest v x = pick (is_short (length_of v)) (zeros (drop (length_of v) (body_of v))) (same (prefix_of v) (take 4 x))

-- a value of the kind: any bytes, or UTF-8
abbrev pub of_kind : Kind → List ℕ → Bool
of_kind Binary x = true
of_kind Text x = well_formed x

unfoldable pub is_true : Lent → Kind → ℕ → List ℕ → Bool
is_true l k n v = reachable l n v && (honest v (shown (blocks_of l n) v) && of_kind k (shown (blocks_of l n) v))

abbrev pub reachable_at : Lent → Column → ℕ → Bool
reachable_at l c r = reachable l c.blocks (row_view l c r)

-- a row judged by a kind, which for an appended column is the builder's
abbrev pub true_at : Kind → Lent → Column → ℕ → Bool
true_at k l c r = is_true l k c.blocks (row_view l c r)

-- the lowest of n rows that fails the test is refused with 11; where none does, w
unfoldable pub lowest : (ℕ → Bool) → ℕ → Why → Why
lowest good zero w = w
lowest good (suc n) w = lowest good n (refuse (BadView n) (not (good n)) w)
