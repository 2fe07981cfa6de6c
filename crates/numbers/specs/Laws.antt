-- Numbers as the code has them. Assumes nothing.
use Rattle.std.specs.Prelude.{◌≡◌, refl, not, List, [], ◌∷◌, ℕ, eqb, get_or, Ok, Err}
use Rattle.std.proofs.Common.{eq-eqb, ne_eqb}
use Rattle.bounds.specs.Refusals.{why_number, Why}
use Rattle.column.specs.declared.Kind.{Kind}
use Rattle.column.specs.declared.Kind.TheVariants.{Binary, Text}
use Rattle.column.specs.declared.Column.{Column}
use Rattle.numbers.specs.Numbers.{kind_from, column_from, kind_number, flag, column_numbers, why_told}

pub kind-zero : (k : ℕ) → k ≡ 0 → Binary ≡ kind_from k
unfolding kind_from
kind-zero k h = rw (eq-eqb k 0 h)

pub kind-other : (k : ℕ) → (k ≡ 0 → ⊥) → Text ≡ kind_from k
unfolding kind_from
kind-other k h = rw (ne_eqb k 0 h)

pub column-is : (l : List ℕ) (k : Kind) → k ≡ kind_from (get_or l 3 0)
    → record { first = get_or l 0 0; rows = get_or l 1 0; blocks = get_or l 2 0; kind = k; mapped = not (eqb (get_or l 4 0) 0) } ≡ column_from l
unfolding column_from
column-is l k p = rw p

pub column-numbers-are : (c : Column) (k f : ℕ) → k ≡ kind_number c.kind → f ≡ flag c.mapped → c.first ∷ c.rows ∷ c.blocks ∷ k ∷ f ∷ []
    ≡ column_numbers c
unfolding column_numbers
column-numbers-are c k f a b = λ i. c.first ∷ c.rows ∷ c.blocks ∷ a i ∷ b i ∷ []

pub told-number : (w : Why) → (why_told w).number ≡ why_number w
told-number (Ok _) = refl
told-number (Err r) = refl
