-- The mark of a value under the code profile, each mark's number, and what each says of a value by the grammar. Assumes nothing.
use Rattle.std.specs.Prelude.{List, ℕ}
use Rattle.basis.specs.Pick.{pick}
use Rattle.codes.specs.declared.Mark.{Mark}
use Rattle.codes.specs.declared.Mark.TheVariants.{Null, Other, Code, Date}
use Rattle.codes.specs.Grammar.{ElementCode, date}
use Rattle.codes.specs.Recogniser.{conforms, is_date}

abbrev pub mark_number : Mark → ℕ
mark_number Null = 0
mark_number Other = 1
mark_number Code = 2
mark_number Date = 3

-- a value that is no code is no date either
unfoldable pub mark_of : List ℕ → Mark
mark_of x = pick (conforms x) (pick (is_date x) Date Code) Other

-- by the grammar: that `mark_of` gives the mark that holds, and no other holds, is proofs/Exactly
abbrev pub MarkHolds : Mark → List ℕ → Type 0
MarkHolds Null x = ⊥
MarkHolds Other x = ElementCode x → ⊥
MarkHolds Code x = ElementCode x × (date x → ⊥)
MarkHolds Date x = ElementCode x × date x
