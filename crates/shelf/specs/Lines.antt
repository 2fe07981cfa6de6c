-- The lines of the input, and what each says. Assumes nothing.
use Rattle.std.specs.Prelude.{Bool, true, false, List, [], ◌∷◌, ℕ, suc, eqb, take, drop}
use Rattle.basis.specs.Pick.{pick}
use Rattle.order.specs.Order.{same}
use Rattle.shelf.specs.declared.Line.{Line}
use Rattle.shelf.specs.declared.Line.TheVariants.{Code, Null, Bad}

-- a byte before the first of some lines
unfoldable pub on_first : ℕ → List (List ℕ) → List (List ℕ)
on_first c [] = (c ∷ []) ∷ []
on_first c (l ∷ ls) = (c ∷ l) ∷ ls

-- the lines of a text, each without its line end, LF; the last line end may be missing
unfoldable pub lines : List ℕ → List (List ℕ)
lines [] = []
lines (c ∷ s) = pick (eqb c 10) ([] ∷ lines s) (on_first c (lines s))

-- `code=`, `null=`
abbrev pub code_mark : List ℕ
code_mark = 99 ∷ 111 ∷ 100 ∷ 101 ∷ 61 ∷ []

abbrev pub null_mark : List ℕ
null_mark = 110 ∷ 117 ∷ 108 ∷ 108 ∷ 61 ∷ []

-- `code=` and the value's bytes, or `null=` alone
unfoldable pub says : List ℕ → Line
says l = pick (same (take 5 l) code_mark) Code (pick (same l null_mark) Null Bad)

-- the value's bytes
abbrev pub value_of : List ℕ → List ℕ
value_of l = drop 5 l

abbrev pub is_bad_line : Line → Bool
is_bad_line Code = false
is_bad_line Null = false
is_bad_line Bad = true

-- the number of the first bad line after n lines, 0 where there is none
unfoldable pub first_bad_line : ℕ → List (List ℕ) → ℕ
first_bad_line n [] = 0
first_bad_line n (l ∷ ls) = pick (is_bad_line (says l)) (suc n) (first_bad_line (suc n) ls)
