-- A column whose rows are all true shows what they show; what a column shows, row by row. Assumes nothing.
use Rattle.std.specs.Prelude.{◌≡◌, Bool, ℕ, zero, suc, ◌+◌, ◌<◌, length}
use Rattle.std.proofs.Math.Path.{sym, ap, subst}
use Rattle.std.proofs.Common.{◌∙◌, arith}
use Rattle.std.proofs.Math.Bool.{true}
use mathlib.Core.List.{List, []}
use Rattle.std.proofs.Math.ListN.{get_or}
use Rattle.views.specs.View.{view_size}
use Rattle.views.specs.ViewLaws.{length-view}
use Rattle.column.specs.declared.Kind.{Kind}
use Rattle.column.specs.declared.Column.{Column}
use Rattle.column.specs.Lent.{Lent, fits}
use Rattle.column.specs.Meaning.{row_view, blocks_of, shown_at, row_valid}
use Rattle.column.specs.Truth.{true_at, reachable_at}
use Rattle.column.specs.Laid.{rows_of, views_of, bits_of}
use Rattle.showing.specs.Row.{Row}
use Rattle.showing.specs.Rows.{Rows, rnil}
use Rattle.showing.proofs.RowsLaws.{rows_snoc, rows-length, rows_at}
use Rattle.showing.specs.Stores.{length-rows, get_d_rows}
use Rattle.showing.specs.Truths.{AllIn, row-reachable, true-row}
use Rattle.showing.specs.Rooms.{rooms, fitting}
use Rattle.showing.specs.Shows.{Shows}

pub view-size : (l : Lent) (c : Column) → fits l c ≡ true → (r : ℕ) → r < c.rows → length (row_view l c r) ≡ view_size
view-size l c e r h =
    let f = fitting l c e in
    let m = rooms c.mapped l in
    length-view l.views (c.first + r) (omega arith)

pub length-views : (l : Lent) (c : Column) → length (views_of l c) ≡ c.rows
unfolding views_of
length-views l c = length-rows (row_view l c) c.rows

module _ {l : Lent} {c : Column} {xs : List (List ℕ)} {bs : List Bool} (s : Shows l c xs bs) where
  pub shows-rows : c.rows ≡ length xs
  shows-rows = sym (length-views l c) ∙ rows-length s.rows

  pub shows-row : (r : ℕ) → r < c.rows → Row (blocks_of l c.blocks) (row_view l c r) (get_or xs r [])
  unfolding views_of
  shows-row r h =
      subst (λ (v : List ℕ). Row (blocks_of l c.blocks) v (get_or xs r [])) (get_d_rows (row_view l c) c.rows r [] h)
      (rows_at s.rows r (rw (length-views l c) h))

  pub shows-value : (r : ℕ) → r < c.rows → shown_at l c r ≡ get_or xs r []
  unfolding shown_at
  shows-value r h = (shows-row r h).val

  pub shows-reach : (r : ℕ) → r < c.rows → reachable_at l c r ≡ true
  shows-reach r h = row-reachable l c.blocks s.inside (shows-row r h)

  pub shows-bit : (r : ℕ) → r < c.rows → row_valid l c r ≡ get_or bs r true
  unfolding bits_of
  shows-bit r h = sym (get_d_rows (row_valid l c) c.rows r true h) ∙ ap (λ (b : List Bool). get_or b r true) s.bits

pub rows-by : (bs : List (List ℕ)) (f g : ℕ → List ℕ) (n : ℕ) → ((i : ℕ) → i < n → Row bs (f i) (g i)) → Rows bs (rows_of f n) (rows_of g n)
unfolding rows_of
rows-by bs f g zero h = rnil
rows-by bs f g (suc n) h = rows_snoc (rows-by bs f g n (λ i k. h i (omega arith))) (h n (omega arith))

pub true-rows : (k : Kind) (l : Lent) (c : Column) → fits l c ≡ true → ((r : ℕ) → r < c.rows → true_at k l c r ≡ true)
    → Rows (blocks_of l c.blocks) (views_of l c) (rows_of (shown_at l c) c.rows)
unfolding views_of shown_at
true-rows k l c e h =
    rows-by (blocks_of l c.blocks) (row_view l c) (shown_at l c) c.rows
    (λ r j. true-row l k c.blocks (row_view l c r) (view-size l c e r j) (h r j))
