-- The tally's verdict on the rows of a column, and its answer. Assumes nothing.
use Rattle.std.specs.Prelude.{◌≡◌, true, false, Ok, Err}
use Rattle.std.proofs.Math.Path.{refl, ap}
use Rattle.std.proofs.Common.{◌∙◌, arith}
use Rattle.std.proofs.Math.Bool.{not}
use Prim.Native.Nat.{ℕ, ◌<◌}
use Rattle.bounds.specs.Refusals.{refuse-yes, refuse-no, accepted, Why, answered}
use Rattle.bounds.specs.declared.Refusal.TheVariants.{Fit, BadView}
use Rattle.column.specs.declared.Column.{Column}
use Rattle.column.specs.Lent.{Lent, fits}
use Rattle.column.proofs.LowestLaws.{lowest-none, lowest-bad}
use Rattle.column.specs.Truth.{reachable_at, lowest}
use Rattle.marks.specs.declared.Tally.{Tally}
use Rattle.marks.specs.Marking.{why_marks, tally_of, marks_of}

module _ (l : Lent) (c : Column) where
  pub marks-unfit : fits l c ≡ false → Err Fit ≡ marks_of l c
  unfolding marks_of why_marks
  marks-unfit f = ap (λ (w : Why). answered w (tally_of l c c.rows)) (refuse-yes Fit (not (fits l c)) _ (Err Fit) (ap not f) refl)

  module _ (fit : fits l c ≡ true) where
    judged : (w : Why) → w ≡ lowest (reachable_at l c) c.rows accepted → answered w (tally_of l c c.rows) ≡ marks_of l c
    unfolding marks_of why_marks
    judged w e = ap (λ (v : Why). answered v (tally_of l c c.rows)) (refuse-no Fit (not (fits l c)) _ w (ap not fit) e)

    pub marks-bad : (k : ℕ) → k < c.rows → ((j : ℕ) → j < k → reachable_at l c j ≡ true) → reachable_at l c k ≡ false
        → Err (BadView k) ≡ marks_of l c
    marks-bad k h g b = judged (Err (BadView k)) (lowest-bad (reachable_at l c) k c.rows accepted h g b)

    pub marks-are : (k : ℕ) → k ≡ c.rows → ((j : ℕ) → j < k → reachable_at l c j ≡ true) → (t : Tally) → t ≡ tally_of l c k → Ok t ≡ marks_of l c
    marks-are k h g t e =
        ap Ok (e ∙ ap (λ (n : ℕ). tally_of l c n) h)
        ∙ judged accepted (lowest-none (reachable_at l c) c.rows accepted (λ j b. g j (omega arith)))
