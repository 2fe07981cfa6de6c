-- The three ways in which an answer begins. Assumes nothing.
use mathlib.Core.Path.{◌≡◌, ◌∙◌}
use mathlib.Core.List.{List}
use Prim.Native.Nat.{ℕ, ◌≤◌, ◌<◌}
use borrow.Author.Tests.{le-leb, lt-leb, eq-eqb, ne_eqb}
use lib.ListN.{length}
use Rattle.column.specs.declared.Column.{Column}
use Rattle.column.specs.Lent.{lent}
use Rattle.shelf.specs.Lines.{lines, first_bad_line}
use Rattle.shelf.specs.Adding.{built, shelf_lent, shelf_column}
use Rattle.whole.specs.declared.Place.TheVariants.{Opening}
use Rattle.whole.specs.Answer.{listed_column, input_most}
use Rattle.whole.specs.Pieces.{answered-size, answered-bad}
use Rattle.answering.specs.Listed.{Enough}
use Rattle.answering.specs.Begins.{refused_at, accepted, refusal, AnswerBegins}
use Rattle.answering.proofs.Listed.{listed}

module _ (s vs bs ss ns ms ps : List ℕ) where
  pub begins-long : input_most < length s → AnswerBegins s vs bs ss ns ms ps vs bs ss ns ms (refusal 0)
  unfolding accepted refused_at
  begins-long h = let e = lt-leb (length s) input_most h in record { rest = answered-size s h; place = rw e; column = rw e; lent = rw e }

  pub begins-bad : (n : ℕ) → length s ≤ input_most → n ≡ first_bad_line 0 (lines s) → (n ≡ 0 → ⊥)
      → AnswerBegins s vs bs ss ns ms ps vs bs ss ns ms (refusal n)
  unfolding accepted refused_at
  begins-bad n h e z =
      let a = le-leb (length s) input_most h in
      let b = ne_eqb n 0 z in
      record { rest = answered-bad s n h e z; place = rw (a, ← e, b); column = rw (a, ← e, b); lent = rw (a, ← e, b) }

  module _ {vs' bs' ss' ns' ms' : List ℕ} {c : Column} where
    pub begins-listed : Enough vs bs ss ns ms → length s ≤ input_most → first_bad_line 0 (lines s) ≡ 0
        → (c ≡ shelf_column (built s vs bs ss ns ms ps)) × (lent vs' bs' ss' ns' ms' ≡ shelf_lent (built s vs bs ss ns ms ps))
        → AnswerBegins s vs bs ss ns ms ps vs' bs' ss' ns' ms' (record { column = c; place = Opening })
    unfolding accepted
    begins-listed n h z q =
        let a = le-leb (length s) input_most h in
        let b = eq-eqb (first_bad_line 0 (lines s)) 0 z in
        record {
          rest = (λ i. listed_column (q.1 i) (q.0 i)) ∙ (listed s vs bs ss ns ms ps n (record { size = h; lines = z })).answers;
          place = rw (a, b);
          column = rw (a, b) q.0;
          lent = rw (a, b) q.1;
        }
