-- What the reading calls and the comparison answer of columns that show values and bits. Assumes nothing.
use Rattle.std.specs.Prelude.{Ok}
use mathlib.Core.Path.{◌≡◌}
use mathlib.Core.Bool.{Bool, true}
use mathlib.Core.List.{List, []}
use Prim.Native.Nat.{ℕ, ◌+◌, ◌<◌}
use native.Mathlib.Omega.{arith}
use borrow.Author.Tests.{lt-leb, le-ltb}
use lib.ListN.{get_or}
use Rattle.bounds.specs.Refusals.{refuse, accepted, answered}
use Rattle.column.specs.declared.Column.{Column}
use Rattle.column.specs.Lent.{Lent}
use Rattle.showing.specs.Row.{Row}
use Rattle.showing.specs.Padded.{rows-compare}
use Rattle.showing.specs.Shows.{Shows}
use Rattle.showing.proofs.ShowsLaws.{shows-row, shows-value, shows-reach, shows-bit}
use Rattle.order.specs.Order.{cmp}
use Rattle.reading.specs.Reading.{why_run, why_row, why_value, value_at, bit_of}
use Rattle.comparison.specs.Compare.{both_of, why_compare, compare_views, compare_rows, order_of}

module _ {l : Lent} {c : Column} {xs : List (List ℕ)} {bs : List Bool} (s : Shows l c xs bs) where
  pub why-shows : (i : ℕ) → i < c.rows → why_value l c i ≡ accepted
  unfolding why_value refuse
  why-shows i h = rw (s.fitted, lt-leb c.rows i h, shows-reach s i h)

  pub value-shows : (i : ℕ) → i < c.rows → value_at l c i ≡ get_or xs i []
  unfolding value_at
  value-shows i h = rw (why-shows i h) (shows-value s i h)

  pub bit-shows : (i : ℕ) → i < c.rows → bit_of l c i ≡ answered accepted (get_or bs i true)
  unfolding bit_of why_row why_run refuse
  bit-shows i h = rw (s.fitted, le-ltb c.rows (i + 1) (omega arith), shows-bit s i h)

-- rows of two columns by their views
compare-rows : {bs : List (List ℕ)} {v x : List ℕ} {cs : List (List ℕ)} {w y : List ℕ} → Row bs v x → Row cs w y → compare_views bs v cs w ≡ cmp x y
unfolding compare_views
compare-rows s t = rows-compare s t

module _ {l : Lent} {c : Column} {xs : List (List ℕ)} {bs : List Bool} {m : Lent} {d : Column} {ys : List (List ℕ)} {cs : List Bool}
    (s : Shows l c xs bs) (t : Shows m d ys cs) where
  pub compare-shows : (i j : ℕ) → i < c.rows → j < d.rows → compare_rows l c i m d j ≡ Ok (order_of (cmp (get_or xs i []) (get_or ys j [])))
  unfolding compare_rows why_compare both_of
  compare-shows i j p q = rw (why-shows s i p, why-shows t j q, compare-rows (shows-row s i p) (shows-row t j q))
