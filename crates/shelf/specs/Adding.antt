-- The rows that lines add to a builder, and the column that is finished. Assumes nothing.
use Rattle.std.specs.Prelude.{List, [], ◌∷◌, ℕ}
use Rattle.column.specs.declared.Column.{Column}
use Rattle.column.specs.declared.Kind.TheVariants.{Binary}
use Rattle.column.specs.Lent.{Lent}
use Rattle.builder.specs.declared.Settings.{Settings}
use Rattle.builder.specs.declared.Sizes.TheVariants.{Doubled}
use Rattle.builder.specs.declared.Merging.TheVariants.{Off}
use Rattle.builder.specs.State.{Builder, held}
use Rattle.builder.specs.Start.{start_state, start_places}
use Rattle.builder.specs.Values.{why_values, put_values, why_null, put_null}
use Rattle.builder.specs.Finish.{why_finish, finished, finish_column}
use Rattle.builder.specs.Does.{left}
use Rattle.shelf.specs.declared.Line.{Line}
use Rattle.shelf.specs.declared.Line.TheVariants.{Code, Null, Bad}
use Rattle.shelf.specs.Lines.{lines, says, value_of}

-- one value call, or one null call; a bad line adds nothing
abbrev pub added_by : Line → List ℕ → Builder → Builder
added_by Code x b = left (λ (b : Builder). why_values 1 b x) (put_values 1 x) b
added_by Null x b = left why_null put_null b
added_by Bad x b = b

unfoldable pub added : List ℕ → Builder → Builder
added l b = added_by (says l) (value_of l) b

unfoldable pub added_all : List (List ℕ) → Builder → Builder
added_all [] b = b
added_all (l ∷ ls) b = added_all ls (added l b)

-- Binary, merging off, doubling growth
abbrev pub shelf_settings : Settings
shelf_settings = record { kind = Binary; sizes = Doubled; merging = Off }

-- the builder that all lines of a text leave, over lent buffers
unfoldable pub built : List ℕ → List ℕ → List ℕ → List ℕ → List ℕ → List ℕ → List ℕ → Builder
built s vs bs ss ns ms ps = added_all (lines s) (held (start_state shelf_settings) vs bs ss ns ms (start_places shelf_settings ps))

-- the buffers and the column after finish
unfoldable pub shelf_lent : Builder → Lent
shelf_lent b = (left why_finish finished b).lent

abbrev pub shelf_column : Builder → Column
shelf_column b = finish_column b
