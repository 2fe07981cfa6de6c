-- How the answer to an input begins: what is left to write at that place is the answer, whole. Assumes nothing.
use Rattle.std.specs.Prelude.{◌≡◌, Bool, false, ◌&&◌, List, ℕ, leb, eqb, length}
use Rattle.basis.specs.Pick.{pick}
use Rattle.column.specs.declared.Column.{Column}
use Rattle.column.specs.declared.Kind.TheVariants.{Binary}
use Rattle.column.specs.Lent.{lent}
use Rattle.shelf.specs.Lines.{lines, first_bad_line}
use Rattle.shelf.specs.Adding.{built, shelf_lent, shelf_column}
use Rattle.whole.specs.declared.Place.TheVariants.{Refused, Opening}
use Rattle.whole.specs.Answer.{shelf_answer, input_most}
use Rattle.whole.specs.Rest.{rest_of}
use Rattle.answering.specs.declared.Begun.{Begun}

-- the line that is refused, 0 where the input is too long
unfoldable pub refused_at : List ℕ → ℕ
refused_at s = pick (leb (length s) input_most) (first_bad_line 0 (lines s)) 0

-- neither too long, nor with a bad line
unfoldable pub accepted : List ℕ → Bool
accepted s = leb (length s) input_most && eqb (first_bad_line 0 (lines s)) 0

-- no rows, no blocks
abbrev pub empty_column : Column
empty_column = record { first = 0; rows = 0; blocks = 0; kind = Binary; mapped = false }

abbrev pub refusal : ℕ → Begun
refusal n = record { column = empty_column; place = Refused n }

pub record AnswerBegins (s vs bs ss ns ms ps vs' bs' ss' ns' ms' : List ℕ) (r : Begun) : Type 0 where
  pub rest : rest_of (lent vs' bs' ss' ns' ms') r.column r.place ≡ shelf_answer s
  pub place : r.place ≡ pick (accepted s) Opening (Refused (refused_at s))
  pub column : r.column ≡ pick (accepted s) (shelf_column (built s vs bs ss ns ms ps)) empty_column
  pub lent : lent vs' bs' ss' ns' ms' ≡ pick (accepted s) (shelf_lent (built s vs bs ss ns ms ps)) (lent vs bs ss ns ms)
