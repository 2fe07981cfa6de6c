-- The mark of a value is the one that holds by the grammar. Assumes nothing.
use mathlib.Core.Path.{◌≡◌, refl, sym, ◌∙◌}
use mathlib.Core.Bool.{Bool, true, false, true≢false}
use mathlib.Core.List.{List}
use Prim.Native.Nat.{ℕ}
use Rattle.basis.specs.Pick.{pick}
use Rattle.codes.specs.declared.Mark.{Mark}
use Rattle.codes.specs.declared.Mark.TheVariants.{Null, Other, Code, Date}
use Rattle.codes.specs.Recogniser.{conforms, is_date}
use Rattle.codes.specs.Marks.{mark_of, MarkHolds}
use Rattle.codes.proofs.CodeExactly.{conforms-code, code-conforms}
use Rattle.codes.proofs.DateExactly.{is-date, date-is}

module _ (x : List ℕ) where
  pub mark-holds : MarkHolds (mark_of x) x
  unfolding mark_of
  mark-holds = go (conforms x) (is_date x) refl refl
    where
      go : (s t : Bool) → conforms x ≡ s → is_date x ≡ t → MarkHolds (pick s (pick t Date Code) Other) x
      go true true c d = (conforms-code x c, is-date x d)
      go true false c d = (conforms-code x c, λ g. true≢false (sym (date-is x g) ∙ d))
      go false t c d = λ g. true≢false (sym (code-conforms x g) ∙ c)

  -- two marks that hold are one
  one_holds : (m n : Mark) → MarkHolds m x → MarkHolds n x → m ≡ n
  one_holds Null n h k = absurd h
  one_holds Other Null h k = absurd k
  one_holds Other Other h k = refl
  one_holds Other Code h k = absurd (h k.0)
  one_holds Other Date h k = absurd (h k.0)
  one_holds Code Null h k = absurd k
  one_holds Code Other h k = absurd (k h.0)
  one_holds Code Code h k = refl
  one_holds Code Date h k = absurd (h.1 k.1)
  one_holds Date Null h k = absurd k
  one_holds Date Other h k = absurd (k h.0)
  one_holds Date Code h k = absurd (k.1 h.1)
  one_holds Date Date h k = refl

  pub mark-only : (m : Mark) → MarkHolds m x → m ≡ mark_of x
  mark-only m h = one_holds m (mark_of x) h mark-holds
