-- What the mark of a row of a column that fits tells of its view. Assumes nothing.
use Rattle.std.proofs.Math.Path.{◌≡◌, refl, ap}
use Rattle.std.proofs.Common.{sym, ◌∙◌, arith}
use Rattle.std.specs.Prelude.{Bool, not, ℕ, ◌<◌, Ok, Err, Result}
use Rattle.std.proofs.Math.Bool.{true, false}
use Rattle.bounds.specs.Refusals.{refuse, accepted, Why, answered}
use Rattle.bounds.specs.declared.Refusal.{Refusal}
use Rattle.bounds.specs.declared.Refusal.TheVariants.{BadView}
use Rattle.column.specs.declared.Column.{Column}
use Rattle.column.specs.Lent.{Lent, fits}
use Rattle.column.specs.Truth.{reachable_at}
use Rattle.reading.proofs.ReadingLaws.{value-reach}
use Rattle.codes.specs.declared.Mark.{Mark}
use Rattle.marks.specs.Marking.{row_mark, mark_at}

module _ (l : Lent) (c : Column) (r : ℕ) (fit : fits l c ≡ true) (h : r < c.rows) (m : Result Mark Refusal) (e : m ≡ mark_at l c r) where
  by-reach : m ≡ answered (refuse (BadView r) (not (reachable_at l c r)) accepted) (row_mark l c r)
  unfolding mark_at
  by-reach = e ∙ ap (λ (w : Why). answered w (row_mark l c r)) (sym (value-reach l c r fit h))

  pub is-marked : (k : Mark) → m ≡ Ok k → (reachable_at l c r ≡ true) × (k ≡ row_mark l c r)
  unfolding refuse
  is-marked k f = by (reachable_at l c r) (sym f ∙ by-reach)
    where
      by : (b : Bool) → Ok k ≡ answered (refuse (BadView r) (not b) accepted) (row_mark l c r) → (b ≡ true) × (k ≡ row_mark l c r)
      by true g = (refl, cc)
      by false g = absurd (let z : ◌≡◌ {A = ℕ} 0 1 = cc in omega arith)

  pub is-refused : (z : Refusal) → m ≡ Err z → (reachable_at l c r ≡ false) × (z ≡ BadView r)
  unfolding refuse
  is-refused z f = by (reachable_at l c r) (sym f ∙ by-reach)
    where
      by : (b : Bool) → Err z ≡ answered (refuse (BadView r) (not b) accepted) (row_mark l c r) → (b ≡ false) × (z ≡ BadView r)
      by true g = absurd (let z : ◌≡◌ {A = ℕ} 0 1 = cc in omega arith)
      by false g = (refl, cc)
