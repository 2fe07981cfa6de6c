-- What is left where an answer begins is the answer. Assumes nothing.
use mathlib.Core.Path.{◌≡◌, refl, sym, ap, ◌∙◌}
use mathlib.Core.Bool.{Bool, true, false, ◌&&◌, true≢false}
use mathlib.Core.List.{List}
use Prim.Native.Nat.{ℕ}
use borrow.Author.Tests.{leb-true, leb-false, eqb-true, le-ltb, lt-ltb}
use lib.Dec.{leb, ltb, eqb}
use lib.ListN.{length}
use Rattle.basis.specs.Pick.{pick}
use Rattle.column.specs.Lent.{lent}
use Rattle.listing.specs.Text.{refused_line}
use Rattle.shelf.specs.Lines.{lines, first_bad_line}
use Rattle.shelf.specs.Adding.{built, shelf_lent, shelf_column}
use Rattle.whole.specs.declared.Place.TheVariants.{Refused, Opening}
use Rattle.whole.specs.Answer.{input_most}
use Rattle.marking.specs.Text.{marked_rows, marked_lines, marked_answer}
use Rattle.marking.specs.Left.{marks_left}
use Rattle.answering.specs.declared.Begun.{Begun}
use Rattle.answering.specs.Listed.{Enough, GoodInput}
use Rattle.answering.specs.Begins.{refused_at, accepted, empty_column, AnswerBegins}
use Rattle.marked.specs.Marked.{rows_said}
use Rattle.marked.proofs.Marked.{marked}

both-good : (a b : Bool) → a && b ≡ true → (a ≡ true) × (b ≡ true)
both-good true b e = (refl, e)
both-good false b e = absurd (true≢false (sym e))

good : (s : List ℕ) → accepted s ≡ true → GoodInput s
unfolding accepted
good s e =
    let w = both-good (leb (length s) input_most) (eqb (first_bad_line 0 (lines s)) 0) e in
    record { size = leb-true (length s) input_most w.0; lines = eqb-true (first_bad_line 0 (lines s)) 0 w.1 }

refused-is : (s : List ℕ) → accepted s ≡ false → refused_line (refused_at s) ≡ marked_answer s
unfolding accepted refused_at marked_answer marked_lines
refused-is s e = go (leb (length s) input_most) refl e
  where
    go : (t : Bool) → leb (length s) input_most ≡ t → t && eqb (first_bad_line 0 (lines s)) 0 ≡ false
        → refused_line (pick t (first_bad_line 0 (lines s)) 0)
        ≡ pick (ltb input_most (length s)) (refused_line 0)
        (pick (eqb (first_bad_line 0 (lines s)) 0) (marked_rows (rows_said s)) (refused_line (first_bad_line 0 (lines s))))
    go true d e = rw (le-ltb input_most (length s) (leb-true (length s) input_most d), e)
    go false d e = rw (lt-ltb input_most (length s) (leb-false (length s) input_most d))

module _ (s vs bs ss ns ms ps : List ℕ) {vs' bs' ss' ns' ms' : List ℕ} {r : Begun} where
  pub marks_begin : Enough vs bs ss ns ms → AnswerBegins s vs bs ss ns ms ps vs' bs' ss' ns' ms' r
      → marks_left (lent vs' bs' ss' ns' ms') r.column r.place ≡ marked_answer s
  marks_begin n w = go (accepted s) refl w.place w.column w.lent
    where
      go : (t : Bool) → accepted s ≡ t → r.place ≡ pick t Opening (Refused (refused_at s))
          → r.column ≡ pick t (shelf_column (built s vs bs ss ns ms ps)) empty_column
          → lent vs' bs' ss' ns' ms' ≡ pick t (shelf_lent (built s vs bs ss ns ms ps)) (lent vs bs ss ns ms)
          → marks_left (lent vs' bs' ss' ns' ms') r.column r.place ≡ marked_answer s
      go true e p c l = (λ i. marks_left (l i) (c i) (p i)) ∙ (marked s vs bs ss ns ms ps n (good s e)).answers
      go false e p c l = ap (marks_left (lent vs' bs' ss' ns' ms') r.column) p ∙ refused-is s e
