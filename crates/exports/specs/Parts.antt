-- The parts of a value's place, and numbers, bits and slices as C and Rust see them. Assumes nothing.
use Rattle.bounds.specs.declared.Refusal.{Refusal}
use Rattle.std.specs.Prelude.{Bool, true, false, ℕ, ◌+◌, ◌-◌, leb, Ok, Err, Result}
use Rattle.basis.specs.Pick.{pick}
use Rattle.bounds.specs.Refusals.{number_of}
use Rattle.column.specs.declared.Column.{Column}
use Rattle.numbers.specs.declared.Counted.{Counted}
use Rattle.exports.specs.declared.Run.{Run}
use Rattle.numbers.specs.declared.Place.{Place}
use Rattle.numbers.specs.Numbers.{place}

abbrev pub counted : ℕ → ℕ → Counted
counted refused n = record { refused = refused; number = n }

abbrev pub run : ℕ → ℕ → ℕ → Run
run refused first rows = record { refused = refused; first = first; rows = rows }

abbrev pub number_told : Result ℕ Refusal → Counted
number_told (Ok n) = counted 0 n
number_told (Err r) = counted (number_of r) 0

abbrev pub bit_told : Result Bool Refusal → Counted
bit_told (Ok true) = counted 0 1
bit_told (Ok false) = counted 0 0
bit_told (Err r) = counted (number_of r) 0

abbrev pub slice_told : Result Column Refusal → Run
slice_told (Ok c) = run 0 c.first c.rows
slice_told (Err r) = run (number_of r) 0 0

-- the first n bytes of a place, and the last n: none where there are fewer
unfoldable pub prefix_place : ℕ → Place → Place
prefix_place n p = place p.refused p.buffer p.offset (pick (leb n p.len) n 0)

unfoldable pub suffix_place : ℕ → Place → Place
suffix_place n p = place p.refused p.buffer (p.offset + pick (leb n p.len) (p.len - n) 0) (pick (leb n p.len) n 0)
