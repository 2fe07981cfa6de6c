-- A line as a call of the builder, and what that call puts in a row. Assumes nothing.
use Rattle.std.specs.Prelude.{true, List, ℕ}
use Rattle.promise.specs.Calls.{Call, adds_values, adds_null, Cell, cell, no_value}
use Rattle.shelf.specs.declared.Line.{Line}
use Rattle.shelf.specs.declared.Line.TheVariants.{Code, Null, Bad}
use Rattle.shelf.specs.Lines.{says, value_of}

-- a bad line isn't reached: the whole input is refused
abbrev pub call_for : Line → List ℕ → Call
call_for Code x = adds_values 1 x
call_for Null x = adds_null
call_for Bad x = adds_null

abbrev pub line_cell : Line → List ℕ → Cell
line_cell Code x = cell x true
line_cell Null x = no_value
line_cell Bad x = no_value

abbrev pub call_of : List ℕ → Call
call_of l = call_for (says l) (value_of l)

abbrev pub cell_of_line : List ℕ → Cell
cell_of_line l = line_cell (says l) (value_of l)
