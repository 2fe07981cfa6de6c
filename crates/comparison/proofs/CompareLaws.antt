-- On true views the comparison by views is the byte order of what they show, so a comparison of true rows answers it. Assumes nothing.
use Rattle.std.specs.Prelude.{Ok}
use mathlib.Core.Path.{◌≡◌}
use mathlib.Core.Bool.{true}
use mathlib.Core.List.{List}
use Prim.Native.Nat.{ℕ, ◌<◌}
use lib.ListN.{length}
use Rattle.order.specs.Order.{cmp}
use Rattle.views.specs.View.{view_size}
use Rattle.column.specs.declared.Kind.{Kind}
use Rattle.column.specs.declared.Column.{Column}
use Rattle.column.specs.Lent.{Lent, fits}
use Rattle.column.specs.Meaning.{row_view, blocks_of, shown, shown_at}
use Rattle.column.proofs.FitLaws.{and_left}
use Rattle.column.specs.Truth.{reachable, is_true, true_at}
use Rattle.reading.proofs.ReadingLaws.{value-reached}
use Rattle.showing.proofs.ShowsLaws.{view-size}
use Rattle.showing.specs.Truths.{true-row}
use Rattle.showing.specs.Padded.{rows-compare}
use Rattle.comparison.specs.Compare.{compare_views, order_of, both_of, why_compare, compare_rows}

pub compare-true : (l m : Lent) (k k' : Kind) (n n' : ℕ) (v w : List ℕ) → length v ≡ view_size → length w ≡ view_size
    → is_true l k n v ≡ true → is_true m k' n' w ≡ true
    → compare_views (blocks_of l n) v (blocks_of m n') w ≡ cmp (shown (blocks_of l n) v) (shown (blocks_of m n') w)
unfolding compare_views
compare-true l m k k' n n' v w hv hw p q = rows-compare (true-row l k n v hv p) (true-row m k' n' w hw q)

-- two rows of columns that fit, each true for some kind
module _ (l : Lent) (c : Column) (i : ℕ) (m : Lent) (d : Column) (j : ℕ) (k k' : Kind)
    (fit : fits l c ≡ true) (fit2 : fits m d ≡ true) (row : i < c.rows) (row2 : j < d.rows) (sure : true_at k l c i ≡ true) (sure2 : true_at k' m d j
    ≡ true) where
  compare-accepted : why_compare l c i m d j ≡ Ok tt
  unfolding why_compare both_of is_true
  compare-accepted =
      rw (
        ← value-reached l c i fit row (and_left (reachable l c.blocks (row_view l c i)) _ sure),
        ← value-reached m d j fit2 row2 (and_left (reachable m d.blocks (row_view m d j)) _ sure2),
      )

  -- true rows compare as their values do (an end theorem: nothing cites it)
  pub compare-true-rows : compare_rows l c i m d j ≡ Ok (order_of (cmp (shown_at l c i) (shown_at m d j)))
  unfolding compare_rows shown_at
  compare-true-rows =
      rw (
        compare-accepted,
        compare-true l m k k' c.blocks d.blocks (row_view l c i) (row_view m d j) (view-size l c fit i row) (view-size m d fit2 j row2) sure sure2,
      )
