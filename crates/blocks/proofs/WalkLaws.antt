-- The place of a row walk after a row, and that its calls answer what the cursor's do. Assumes nothing.
use Rattle.std.specs.Prelude.{◌≡◌, true, false, ℕ, ◌+◌, ◌≤◌, ◌<◌, leb, Ok, Err}
use Rattle.std.proofs.Math.Path.{refl, ap}
use Rattle.std.proofs.Common.{sym, subst, ◌∙◌, true≢false, arith, leb-true}
use Rattle.bounds.specs.Bounds.{row_limit}
use Rattle.bounds.specs.Refusals.{is_accepted, if_accepted, Why}
use Rattle.column.specs.declared.Column.{Column}
use Rattle.column.specs.Lent.{Lent, fits, row_room, block_room}
use Rattle.column.proofs.FitLaws.{and_left}
use Rattle.reading.specs.Reading.{why_value, value_at}
use Rattle.reading.proofs.ReadingLaws.{value-readable}
use Rattle.reading.specs.Walk.{cursor, walk_value, walk_step}
use Rattle.blocks.specs.Walk.{place_after}

-- a row whose value is accepted is below the limit
pub accepted-low : (l : Lent) (c : Column) (r : ℕ) → is_accepted (why_value l c r) ≡ true → r ≤ row_limit
unfolding fits row_room
accepted-low l c r h =
    let g = value-readable l c r h in
    let f = leb-true (c.first + c.rows) (row_room c.mapped l) (and_left (leb (c.first + c.rows) (row_room c.mapped l))
    (leb c.blocks (block_room l)) g.fit) in
    let k = g.row in omega arith

-- past the limit no row's value is accepted, so the place stays
pub stays-past : (w : Why) (r : ℕ) → row_limit < r → (is_accepted w ≡ true → r ≤ row_limit) → r ≡ place_after w r
unfolding place_after
stays-past (Ok _) r h f = absurd (let g = f refl in omega arith)
stays-past (Err b) r h f = refl

pub goes_on : (w : Why) (r : ℕ) → is_accepted w ≡ true → r + 1 ≡ place_after w r
unfolding place_after
goes_on (Ok _) r h = refl
goes_on (Err b) r h = absurd (true≢false (sym h))

pub stays-refused : (w : Why) (r : ℕ) → is_accepted w ≡ false → r ≡ place_after w r
unfolding place_after
stays-refused (Ok _) r h = absurd (true≢false h)
stays-refused (Err b) r h = refl

module _ (l : Lent) (c : Column) (r : ℕ) where
  -- what the walk's calls answer is what the cursor's do
  pub walk-value : value_at l c r ≡ walk_value l c (cursor r)
  unfolding walk_value
  walk-value = refl

  pub walk-why : why_value l c r ≡ (walk_step l c (cursor r)).why
  unfolding walk_step
  walk-why = refl

  placed : (w : Why) → place_after w r ≡ (if_accepted w (cursor (r + 1)) (cursor r)).at
  unfolding place_after
  placed (Ok _) = refl
  placed (Err b) = refl

  pub walk-place : (w : Why) (n : ℕ) → w ≡ why_value l c r → ((is_accepted w ≡ true → r ≤ row_limit) → n ≡ place_after w r)
      → n ≡ (walk_step l c (cursor r)).next.at
  unfolding walk_step
  walk-place w n e f =
      f (λ h. accepted-low l c r (subst (λ (v : Why). is_accepted v ≡ true) e h))
      ∙ ap (λ (v : Why). place_after v r) e
      ∙ placed (why_value l c r)
