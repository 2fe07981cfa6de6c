-- A library by what some of its calls do, and what it has to meet: enough of the promises to shut out libraries that do nothing useful. Assumes nothing.
use Rattle.bounds.specs.declared.Refusal.{Refusal}
use Rattle.comparison.specs.declared.Side.{Side}
use Rattle.std.specs.Prelude.{◌≡◌, Bool, true, ◌&&◌, List, [], ◌∷◌, ℕ, ◌<◌, length, get_or, Ok, Result}
use Rattle.order.specs.Order.{cmp, Order}
use Rattle.bounds.specs.Refusals.{is_accepted, accepted, Why}
use Rattle.column.specs.declared.Column.{Column}
use Rattle.column.specs.Lent.{Lent}
use Rattle.reading.specs.Reading.{value_at, null_run, total_bytes_len}
use Rattle.comparison.specs.Compare.{order_of, compare_rows}
use Rattle.builder.specs.declared.Settings.{Settings}
use Rattle.builder.specs.State.{Builder}
use Rattle.builder.specs.Start.{why_start, start}
use Rattle.builder.specs.Start as Start
use Rattle.builder.specs.Values.{why_values, put_values}
use Rattle.builder.specs.Get.{column_of}
use Rattle.builder.specs.Finish.{why_finish, finished}

-- why a value call is refused, what an accepted one leaves, the column that finish answers, a comparison, a null run, a total
pub record Library : Type 0 where
  pub why : Builder → List ℕ → Why
  pub append : List ℕ → Builder → Builder
  pub finish : Builder → Column
  pub compare : Lent → Column → ℕ → Lent → Column → ℕ → Result Order Side
  pub nulls : Lent → Column → ℕ → ℕ → Result ℕ Refusal
  pub bytes : Lent → Column → Result ℕ Refusal

abbrev pub library : (Builder → List ℕ → Why) → (List ℕ → Builder → Builder) → (Builder → Column) → (Lent → Column → ℕ → Lent → Column → ℕ → Result Order Side)
    → (Lent → Column → ℕ → ℕ → Result ℕ Refusal) → (Lent → Column → Result ℕ Refusal) → Library
library why append finish compare nulls bytes = record { why = why; append = append; finish = finish; compare = compare; nulls = nulls; bytes = bytes }

-- the one that the definitions say
abbrev pub defined : Library
defined = library (why_values 1) (put_values 1) column_of compare_rows null_run total_bytes_len

-- values appended one after the other, and whether none was refused
unfoldable pub append_all : Library → List (List ℕ) → Builder → Builder
append_all L [] b = b
append_all L (x ∷ xs) b = append_all L xs (L.append x b)

unfoldable pub accepts : Library → List (List ℕ) → Builder → Bool
accepts L [] b = true
accepts L (x ∷ xs) b = is_accepted (L.why b x) && accepts L xs (L.append x b)

-- the buffers and the column that come of a start, the values, and finish
abbrev pub lent_by : Library → List (List ℕ) → Settings → Lent → List ℕ → Lent
lent_by L xs t l places = (finished (append_all L xs (start t l places))).lent

abbrev pub library_column : Library → List (List ℕ) → Settings → Lent → List ℕ → Column
library_column L xs t l places = L.finish (append_all L xs (start t l places))

-- nothing was refused
pub record Passes (L : Library) (xs : List (List ℕ)) (t : Settings) (l : Lent) (places : List ℕ) : Type 0 where
  pub start : why_start t ≡ accepted
  pub values : accepts L xs (Start.start t l places) ≡ true
  pub finish : why_finish (append_all L xs (Start.start t l places)) ≡ accepted

pub record Meets (L : Library) : Type 0 where
  -- the first promise: refused exactly when the paper says
  pub exactly : (b : Builder) (x : List ℕ) → L.why b x ≡ why_values 1 b x
  -- the second, of counts
  pub blocks : (b : Builder) → (L.finish b).blocks ≡ (column_of b).blocks
  pub nulls : (l : Lent) (c : Column) (first count : ℕ) → L.nulls l c first count ≡ null_run l c first count
  pub bytes : (l : Lent) (c : Column) → L.bytes l c ≡ total_bytes_len l c
  -- the third, if nothing was refused: every row shows what was appended, and rows compare as that
  pub shows : {t : Settings} {l : Lent} {places : List ℕ} (xs : List (List ℕ)) (i : ℕ) → Passes L xs t l places → i < length xs
      → value_at (lent_by L xs t l places) (library_column L xs t l places) i ≡ get_or xs i []
  pub orders : {t : Settings} {l : Lent} {places : List ℕ} (xs : List (List ℕ)) (i j : ℕ) → Passes L xs t l places → i < length xs → j < length xs
      → L.compare (lent_by L xs t l places) (library_column L xs t l places) i (lent_by L xs t l places) (library_column L xs t l places) j
      ≡ Ok (order_of (cmp (get_or xs i []) (get_or xs j [])))
