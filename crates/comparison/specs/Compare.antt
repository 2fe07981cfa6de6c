-- Comparison of two rows by their views, null bits ignored. Assumes nothing.
use Rattle.comparison.specs.declared.Side.TheVariants.{Left, Right}
use Rattle.comparison.specs.declared.Side.{Side}
use Rattle.std.specs.Prelude.{◌&&◌, List, leb, Ok, Err, Some, None, Result, Option, ⊤}
use Prim.Native.Nat.{ℕ, compare, Ordering}
use Rattle.basis.specs.Pick.{pick}
use Rattle.order.specs.Order.{thenby, cmp, ordering, Order}
use Rattle.std.proofs.Common.{Less, Equal, Greater}
use Rattle.bounds.specs.Refusals.{number_of, Why, answered}
use Rattle.views.specs.View.{length_of, prefix_of, body_of, is_short}
use Rattle.column.specs.declared.Column.{Column}
use Rattle.column.specs.Lent.{Lent}
use Rattle.column.specs.Meaning.{row_view, blocks_of, shown}
use Rattle.reading.specs.Reading.{why_value}

-- two short values by their twelve bytes then length; otherwise four bytes, then whole values
unfoldable pub compare_views : List (List ℕ) → List ℕ → List (List ℕ) → List ℕ → Ordering
compare_views bs v cs w =
    pick (is_short (length_of v) && is_short (length_of w))
    (thenby (cmp (body_of v) (body_of w)) (compare (length_of v) (length_of w)))
    (thenby (cmp (prefix_of v) (prefix_of w)) (cmp (shown bs v) (shown cs w)))

-- what two views tell, by the order of the whole values
abbrev pub told_by : Option Order → Ordering → Ordering
told_by (Some o) whole = ordering o
told_by None whole = whole

-- each number is tried on the left column first: the lower number, and of equal ones the left column's
unfoldable pub both_of : Why → Why → Result ⊤ Side
both_of (Ok _) (Ok _) = Ok tt
both_of (Ok _) (Err s) = Err (Right s)
both_of (Err r) (Ok _) = Err (Left r)
both_of (Err r) (Err s) = pick (leb (number_of r) (number_of s)) (Err (Left r)) (Err (Right s))

-- 2, 3, 11
unfoldable pub why_compare : Lent → Column → ℕ → Lent → Column → ℕ → Result ⊤ Side
why_compare l c i m d j = both_of (why_value l c i) (why_value m d j)

abbrev pub order_of : Ordering → Order
order_of Ordering.lt = Less
order_of Ordering.eq = Equal
order_of Ordering.gt = Greater

unfoldable pub compare_rows : Lent → Column → ℕ → Lent → Column → ℕ → Result Order Side
compare_rows l c i m d j =
    answered (why_compare l c i m d j)
    (order_of (compare_views (blocks_of l c.blocks) (row_view l c i) (blocks_of m d.blocks) (row_view m d j)))
