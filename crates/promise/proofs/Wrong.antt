-- Libraries that do nothing useful, each the defined one but for one call, and an input on which each breaks a promise. Assumes nothing.
use Rattle.bounds.specs.Refusals.{accepted}
use Rattle.std.specs.Prelude.{Ok, Err, Result}
use mathlib.Core.Path.{◌≡◌, refl}
use mathlib.Core.Bool.{true}
use mathlib.Core.List.{List, [], ◌∷◌}
use Prim.Native.Nat.{ℕ}
use native.Mathlib.Omega.{arith}
use lib.Dec.{eqb, lit<}
use Rattle.basis.specs.Pick.{pick}
use Rattle.bounds.specs.declared.Refusal.{Refusal}
use Rattle.bounds.specs.declared.Refusal.TheVariants.{Fit}
use Rattle.std.proofs.Common.{Less, Equal}
use Rattle.views.specs.View.{view_at}
use Rattle.column.specs.declared.Column.{Column}
use Rattle.reading.specs.Reading.{null_run, total_bytes_len}
use Rattle.comparison.specs.Compare.{compare_rows}
use Rattle.builder.specs.declared.Sizes.TheVariants.{Doubled}
use Rattle.builder.specs.State.{Builder, builder, add_row}
use Rattle.builder.specs.Values.{why_values, put_values}
use Rattle.builder.specs.Get.{column_of}
use Rattle.promise.specs.Bench.{mar, may, bench_lent, plain, fresh}
use Rattle.promise.specs.Library.{Library, library, append_all, accepts, Meets}
use Rattle.promise.proofs.Computed.{computed}

-- refuses all: the empty value in a fresh builder
abbrev refusing : Library
refusing = library (λ b x. Err Fit) (put_values 1) column_of compare_rows null_run total_bytes_len

pub not-refusing : Meets refusing → ⊥
unfolding computed
not-refusing m =
    let e : Err Fit ≡ accepted = m.exactly (fresh Doubled) [] in
    let z : ◌≡◌ {A = ℕ} 0 1 = cc in
    omega arith

-- compares everything as equal: two codes
abbrev equating : Library
equating = library (why_values 1) (put_values 1) column_of (λ l c i m d j. Ok Equal) null_run total_bytes_len

pub not-equating : Meets equating → ⊥
unfolding computed append_all accepts
not-equating m =
    let e : Ok Equal ≡ Ok Less = m.orders {t = plain Doubled} {l = bench_lent} {places = []} (mar ∷ may ∷ []) 0 1
    (record { start = refl; values = refl; finish = refl }) (lit< tt) (lit< tt) in
    let z : ◌≡◌ {A = ℕ} 0 1 = cc in
    omega arith

-- counts the rows and writes nothing
abbrev idle : Library
idle = library (why_values 1) (λ x b. builder (put_values 1 x b).state b.lent b.places) column_of compare_rows null_run total_bytes_len

pub not-idle : Meets idle → ⊥
unfolding computed append_all accepts
not-idle m =
    let e : ◌≡◌ {A = List ℕ} [] (65 ∷ []) = m.shows {t = plain Doubled} {l = bench_lent} {places = []} ((65 ∷ []) ∷ []) 0
    (record { start = refl; values = refl; finish = refl }) (lit< tt) in
    let z : ◌≡◌ {A = ℕ} 0 1 = cc in
    omega arith

-- stores its first row and gives every other row the first one's view
abbrev faking : Library
faking =
    library (why_values 1) (λ x b. pick (eqb b.state.rows 0) (put_values 1 x b) (add_row (view_at b.lent.views 0) true b)) column_of compare_rows
    null_run total_bytes_len

pub not-faking : Meets faking → ⊥
unfolding computed append_all accepts
not-faking m =
    let e : mar ≡ may = m.shows {t = plain Doubled} {l = bench_lent} {places = []} (mar ∷ may ∷ []) 1
    (record { start = refl; values = refl; finish = refl }) (lit< tt) in
    let z : ◌≡◌ {A = ℕ} 82 89 = cc in
    omega arith

-- counts that are invented: three blocks, three nulls, three bytes, of a column that has none
abbrev three_blocks : Builder → Column
three_blocks b =
    record { first = 0; rows = (column_of b).rows; blocks = 3; kind = (column_of b).kind; mapped = (column_of b).mapped }

abbrev of_blocks : Library
of_blocks = library (why_values 1) (put_values 1) three_blocks compare_rows null_run total_bytes_len

pub not-blocks : Meets of_blocks → ⊥
unfolding computed
not-blocks m =
    let e : ◌≡◌ {A = ℕ} 3 0 = m.blocks (fresh Doubled) in
    omega arith

abbrev of_nulls : Library
of_nulls = library (why_values 1) (put_values 1) column_of compare_rows (λ l c first count. Ok 3) total_bytes_len

pub not-nulls : Meets of_nulls → ⊥
unfolding computed
not-nulls m =
    let e : ◌≡◌ {A = Result ℕ Refusal} (Ok 3) (Ok 0) = m.nulls bench_lent (column_of (fresh Doubled)) 0 0 in
    let z : ◌≡◌ {A = ℕ} 3 0 = cc in
    omega arith

abbrev of_bytes : Library
of_bytes = library (why_values 1) (put_values 1) column_of compare_rows null_run (λ l c. Ok 3)

pub not-bytes : Meets of_bytes → ⊥
unfolding computed
not-bytes m =
    let e : ◌≡◌ {A = Result ℕ Refusal} (Ok 3) (Ok 0) = m.bytes bench_lent (column_of (fresh Doubled)) in
    let z : ◌≡◌ {A = ℕ} 3 0 = cc in
    omega arith
