-- A mark, and how many rows have each, as C and Rust see them. Assumes nothing.
use Rattle.bounds.specs.declared.Refusal.{Refusal}
use Rattle.std.specs.Prelude.{ℕ, Ok, Err, Result}
use Rattle.bounds.specs.Refusals.{number_of, row_named}
use Rattle.codes.specs.declared.Mark.{Mark}
use Rattle.codes.specs.Marks.{mark_number}
use Rattle.marks.specs.declared.Tally.{Tally}
use Rattle.numbers.specs.declared.Counted.{Counted}
use Rattle.mark_exports.specs.declared.Marks.{Marks}

-- the refusal's number or 0, then the mark's
abbrev pub mark_counted : ℕ → ℕ → Counted
mark_counted refused m = record { refused = refused; number = m }

abbrev pub mark_told : Result Mark Refusal → Counted
mark_told (Ok m) = mark_counted 0 (mark_number m)
mark_told (Err r) = mark_counted (number_of r) 0

-- refused, the row that 11 names and no counts
abbrev pub marks_refused : ℕ → ℕ → Marks
marks_refused refused row = record { refused = refused; row = row; nulls = 0; others = 0; codes = 0; dates = 0 }

abbrev pub marks_told : Result Tally Refusal → Marks
marks_told (Ok t) = record { refused = 0; row = 0; nulls = t.nulls; others = t.others; codes = t.codes; dates = t.dates }
marks_told (Err r) = marks_refused (number_of r) (row_named r)
