-- A column that shows cells is listed as their rows: the rows themselves, null rows, bytes, and bytes of the long ones. Assumes nothing.
use mathlib.Core.Path.{◌≡◌, refl, sym, ap, ◌∙◌}
use mathlib.Core.Bool.{Bool, true, false}
use mathlib.Core.List.{List, [], ◌∷◌, map}
use Prim.Native.Nat.{ℕ, zero, suc, ◌+◌, ◌≤◌, ◌<◌}
use native.Mathlib.Nat.{add-zero}
use native.Mathlib.Omega.{arith}
use borrow.Author.Tests.{le-ltb}
use lib.ListN.{length, drop, get_or, drop_of_length-le}
use lib.Seq.{drop-cons}
use Rattle.basis.specs.Pick.{pick}
use Rattle.bounds.specs.Refusals.{refuse, accepted, answered}
use Rattle.null_bits.specs.Bits.{count_nulls, null_of}
use Rattle.null_bits.specs.Bits as bits
use Rattle.views.specs.View.{is_short, length_of}
use Rattle.column.specs.declared.Column.{Column}
use Rattle.column.specs.Lent.{Lent}
use Rattle.column.specs.Meaning.{row_view, row_valid}
use Rattle.showing.specs.Shows.{Shows}
use Rattle.showing.proofs.ShowsLaws.{shows-row, shows-bit}
use Rattle.reading.specs.Reading.{why_fit, why_run, bit_of, null_run, bytes_len, total_bytes_len, buffer_bytes, total_buffer_bytes_used}
use Rattle.promise.specs.Calls.{Cell, no_value, bytes_in, valid_in}
use Rattle.promise.proofs.Kept.{rows-shown, value-shown, bit-shown, cell-bytes, cell-bit}
use Rattle.whole.specs.Answer as answer
use Rattle.whole.specs.Answer.{ShelfRow, row, bit_valid, shelf_row_at, rows_from, shelf_rows, number_is, nulls_in, block_bytes_in}

-- the row that a cell is listed as
abbrev pub row_for : Cell → ShelfRow
row_for x = row x.valid x.bytes

-- ---- a sum over rows, last row first, and over their list, first row first

unfoldable sum : (Cell → ℕ) → List Cell → ℕ
sum w [] = 0
sum w (x ∷ xs) = w x + sum w xs

sum-rest : (f g : ℕ → ℕ) (w : Cell → ℕ) (xs : List Cell) → f 0 ≡ 0 → ((n : ℕ) → f (suc n) ≡ f n + g n) → ((n : ℕ) → n < length xs
    → g n ≡ w (get_or xs n no_value))
    → (n : ℕ) → n ≤ length xs → f n + sum w (drop n xs) ≡ sum w xs
unfolding sum
sum-rest f g w xs z s e zero h = omega (arith, z)
sum-rest f g w xs z s e (suc n) h =
    let d : sum w (drop n xs) ≡ w (get_or xs n no_value) + sum w (drop (suc n) xs) = ap (sum w) (drop-cons xs n no_value (omega arith)) in
    omega (arith, s n, e n (omega arith), d, sum-rest f g w xs z s e n (omega arith))

sum-all : (f g : ℕ → ℕ) (w : Cell → ℕ) (xs : List Cell) → f 0 ≡ 0 → ((n : ℕ) → f (suc n) ≡ f n + g n) → ((n : ℕ) → n < length xs → g n ≡ w (get_or xs n no_value))
    → f (length xs) ≡ sum w xs
unfolding sum
sum-all f g w xs z s e =
    let h : length xs ≤ length xs = omega arith in
    let q : sum w (drop (length xs) xs) ≡ 0 = ap (sum w) (drop_of_length-le xs h) in
    omega (arith, q, sum-rest f g w xs z s e (length xs) (omega arith))

null-pick : (t : Bool) → null_of t ≡ pick t 0 1
null-pick true = refl
null-pick false = refl

nulls-sum : (xs : List Cell) → sum (λ (x : Cell). pick x.valid 0 1) xs ≡ nulls_in (map row_for xs)
unfolding sum nulls_in
nulls-sum [] = refl
nulls-sum (x ∷ xs) = ap (λ (n : ℕ). pick x.valid 0 1 + n) (nulls-sum xs)

bytes-sum : (xs : List Cell) → sum (λ (x : Cell). pick x.valid (length x.bytes) 0) xs ≡ answer.valid_bytes (map row_for xs)
unfolding sum answer.valid_bytes
bytes-sum [] = refl
bytes-sum (x ∷ xs) = ap (λ (n : ℕ). pick x.valid (length x.bytes) 0 + n) (bytes-sum xs)

long-sum : (xs : List Cell) → sum (λ (x : Cell). pick (is_short (length x.bytes)) 0 (length x.bytes)) xs ≡ block_bytes_in (map row_for xs)
unfolding sum block_bytes_in
long-sum [] = refl
long-sum (x ∷ xs) = ap (λ (n : ℕ). pick (is_short (length x.bytes)) 0 (length x.bytes) + n) (long-sum xs)

-- ---- the column

bit-valid : (t : Bool) → bit_valid (answered accepted t) ≡ t
bit-valid true = refl
bit-valid false = refl

module _ (l : Lent) (c : Column) where
  from_list : (xs : List Cell) (r : ℕ) → ((k : ℕ) → k < length xs → shelf_row_at l c (r + k) ≡ row_for (get_or xs k no_value)) → rows_from l c r (length xs)
      ≡ map row_for xs
  unfolding rows_from
  from_list [] r h = refl
  from_list (x ∷ xs) r h =
      let a : shelf_row_at l c r ≡ row_for x = ap (shelf_row_at l c) (sym (add-zero r)) ∙ h 0 (omega arith) in
      let step : (k : ℕ) → suc r + k ≡ r + suc k = λ k. omega arith in
      let t = from_list xs (suc r) (λ k q. ap (shelf_row_at l c) (step k) ∙ h (suc k) (omega arith)) in
      λ i. a i ∷ t i

module _ (xs : List Cell) {l : Lent} {c : Column} (s : Shows l c (map bytes_in xs) (map valid_in xs)) where
  bit_at : (r : ℕ) → r < length xs → row_valid l c r ≡ (get_or xs r no_value).valid
  bit_at r h = shows-bit s r (omega (arith, rows-shown xs s)) ∙ cell-bit xs r h

  valid-at : (r : ℕ) → r < length xs → bit_valid (bit_of l c r) ≡ (get_or xs r no_value).valid
  valid-at r h = ap bit_valid (bit-shown xs s r h) ∙ bit-valid (get_or xs r no_value).valid

  length_at : (r : ℕ) → r < length xs → length_of (row_view l c r) ≡ length (get_or xs r no_value).bytes
  length_at r h = (shows-row s r (omega (arith, rows-shown xs s))).len ∙ ap length (cell-bytes xs r)

  pub rows-listed : shelf_rows l c ≡ map row_for xs
  rows-listed =
      ap (rows_from l c 0) (rows-shown xs s)
      ∙ from_list l c xs 0 (λ k h. let z : 0 + k ≡ k = omega arith in rw z (λ i. row (valid-at k h i) (value-shown xs s k h i)))

  pub nulls-listed : number_is (null_run l c 0 c.rows) ≡ nulls_in (map row_for xs)
  unfolding null_run why_run refuse count_nulls row_valid
  nulls-listed =
      let z : c.first + 0 ≡ c.first = omega arith in
      rw (s.fitted, le-ltb c.rows (0 + c.rows) (omega arith), rows-shown xs s, z)
      (sum-all (count_nulls l.nulls c.mapped c.first) (λ (n : ℕ). null_of (bits.valid_at l.nulls c.mapped (c.first + n))) _ xs refl (λ n. refl)
      (λ n h. null-pick (bits.valid_at l.nulls c.mapped (c.first + n)) ∙ ap (λ (t : Bool). pick t 0 1) (bit_at n h))
      ∙ nulls-sum xs)

  pub bytes-listed : number_is (total_bytes_len l c) ≡ answer.valid_bytes (map row_for xs)
  unfolding total_bytes_len why_fit refuse bytes_len
  bytes-listed =
      rw s.fitted
      (ap (bytes_len l c) (rows-shown xs s) ∙ sum-all (bytes_len l c) (λ (n : ℕ). pick (row_valid l c n) (length_of (row_view l c n)) 0) _ xs refl
      (λ n. refl) (λ n h. rw (bit_at n h, length_at n h)) ∙ bytes-sum xs)

  pub long-listed : number_is (total_buffer_bytes_used l c) ≡ block_bytes_in (map row_for xs)
  unfolding total_buffer_bytes_used why_fit refuse buffer_bytes
  long-listed =
      rw s.fitted
      (ap (buffer_bytes l c) (rows-shown xs s) ∙ sum-all (buffer_bytes l c) (λ (n : ℕ). pick (is_short (length_of (row_view l c n))) 0
      (length_of (row_view l c n))) _ xs refl (λ n. refl) (λ n h. rw (length_at n h)) ∙ long-sum xs)
