-- The pieces that the program writes, one after the other, are the whole. Assumes nothing.
use Rattle.std.specs.Prelude.{◌≡◌, Bool, not, ltb, length, take, drop, get_or, Err}
use Rattle.std.proofs.Math.Path.{refl, sym, ap}
use Rattle.std.proofs.Common.{◌∙◌, zero-add, drop-cons}
use Rattle.std.proofs.Math.Bool.{true, false}
use mathlib.Core.List.{List, [], ◌++◌, append_assoc, map}
use Prim.Native.Nat.{ℕ, zero, suc, ◌+◌, ◌-◌, ◌≤◌, ◌<◌}
use Rattle.std.proofs.Math.Nat.{add-zero}
use native.Mathlib.Omega.{arith}
use borrow.Author.Tests.{leb-true, leb-false, le-leb, ltb-true, ltb-false, lt-ltb, le-ltb, ne_eqb}
use Rattle.std.proofs.Math.Dec.{leb}
use Rattle.std.proofs.Math.ListN.{get_or-eq_default}
use Rattle.std.proofs.Math.Seq.{take-length}
use Rattle.basis.specs.Pick.{pick}
use Rattle.bounds.specs.Refusals.{refuse, if_accepted}
use Rattle.bounds.specs.Refusals.{answered as answer_by}
use Rattle.bounds.specs.declared.Refusal.TheVariants as refusal
use Rattle.bounds.specs.declared.Refusal.TheVariants.{Fit}
use Rattle.listing.specs.Text.{row_line, gap_line, opening, closing, refused_line}
use Rattle.shelf.specs.declared.Item.{Item}
use Rattle.shelf.specs.declared.Item.TheVariants as item
use Rattle.shelf.specs.Items.{item_count, item_at}
use Rattle.shelf.specs.ItemLaws.{count-few, count-many, item-few, item-first, item-gap, item-last}
use Rattle.whole.specs.Answer.{ShelfRow, row, row_said, row_lines, body, nulls_in, valid_bytes, block_bytes_in, blocks_used, listed, answer_lines, shelf_answer, bit_valid, shelf_row_at, rows_from, shelf_rows, number_is, closing_of, listed_column, input_most}
use Rattle.shelf.specs.Lines.{lines, first_bad_line}
use Rattle.column.specs.declared.Column.{Column}
use Rattle.column.specs.Lent.{Lent, fits}
use Rattle.column.specs.Meaning.{shown_at, row_valid}
use Rattle.reading.specs.Reading.{why_run, why_row, why_value, bit_of, value_at, null_run, total_bytes_len, total_buffer_bytes_used}

-- ---- the rows and the gap, item by item

abbrev pub no_row : ShelfRow
no_row = row false []

abbrev pub item_line : List ShelfRow → Item → List ℕ
item_line rs (item.Row r) = row_line (get_or rs r no_row).valid (get_or rs r no_row).value
item_line rs (item.Gap n) = gap_line n

-- n items from item k on
unfoldable pub item_lines : List ShelfRow → ℕ → ℕ → List ℕ
item_lines rs k zero = []
item_lines rs k (suc n) = item_line rs (item_at (length rs) k) ++ item_lines rs (suc k) n

-- n rows from row r on
unfoldable run : List ShelfRow → ℕ → ℕ → List ℕ
run rs r zero = []
run rs r (suc n) = item_line rs (item.Row r) ++ run rs (suc r) n

run_is : (rs : List ShelfRow) (r n : ℕ) → r + n ≤ length rs → run rs r n ≡ row_lines (take n (drop r rs))
unfolding run row_lines
run_is rs r zero h = refl
run_is rs r (suc n) h =
    rw (drop-cons rs r no_row (omega arith))
    (ap (λ (z : List ℕ). item_line rs (item.Row r) ++ z) (run_is rs (suc r) n (omega arith)))

module _ (rs : List ShelfRow) where
  few : (k n : ℕ) → length rs ≤ 20 → item_lines rs k n ≡ run rs k n
  unfolding item_lines run
  few k zero h = refl
  few k (suc n) h = rw (← item-few (length rs) k h) (ap (λ (z : List ℕ). item_line rs (item.Row k) ++ z) (few (suc k) n h))

  early : (k n : ℕ) → 20 < length rs → k + n ≤ 10 → item_lines rs k n ≡ run rs k n
  unfolding item_lines run
  early k zero h g = refl
  early k (suc n) h g = rw (← item-first (length rs) k h (omega arith)) (ap (λ (z : List ℕ). item_line rs (item.Row k) ++ z) (early (suc k) n h (omega arith)))

  last : (k n r : ℕ) → 20 < length rs → 10 < k → r ≡ length rs - 21 + k → item_lines rs k n ≡ run rs r n
  unfolding item_lines run
  last k zero r h g e = refl
  last k (suc n) r h g e =
      rw (← item-last (length rs) k h (omega arith) (λ q. omega arith), ← e)
      (ap (λ (z : List ℕ). item_line rs (item.Row r) ++ z) (last (suc k) n (suc r) h (omega arith) (omega arith)))

  split : (k m n : ℕ) → item_lines rs k (m + n) ≡ item_lines rs k m ++ item_lines rs (k + m) n
  unfolding item_lines
  split k zero n = rw (zero-add n, add-zero k)
  split k (suc m) n =
      let e : suc m + n ≡ suc (m + n) = omega arith in
      let d : suc k + m ≡ k + suc m = omega arith in
      let a = item_line rs (item_at (length rs) k) in
      rw e
      (ap (λ (z : List ℕ). a ++ z) (split (suc k) m n ∙ ap (λ (j : ℕ). item_lines rs (suc k) m ++ item_lines rs j n) d)
      ∙ sym (append_assoc a (item_lines rs (suc k) m) (item_lines rs (k + suc m) n)))

  -- all items are the body
  pub items-whole : item_lines rs 0 (item_count (length rs)) ≡ body rs
  unfolding body item_lines
  items-whole = go (leb (length rs) 20) refl
    where
      go : (t : Bool) → leb (length rs) 20 ≡ t
          → item_lines rs 0 (item_count (length rs)) ≡ pick t (row_lines rs) (row_lines (take 10 rs) ++ (gap_line (length rs - 20) ++ row_lines
          (take 10 (drop (length rs - 10) rs))))
      go true e =
          let h = leb-true (length rs) 20 e in
          ap (item_lines rs 0) (sym (count-few (length rs) h)) ∙ (few 0 (length rs) h ∙ (run_is rs 0 (length rs) (omega arith) ∙ ap row_lines (take-length rs)))
      go false e =
          let h = leb-false (length rs) 20 e in
          let p = early 0 10 h (omega arith) ∙ run_is rs 0 10 (omega arith) in
          let g = ap (item_line rs) (sym (item-gap (length rs) 10 h refl)) in
          let q = last 11 10 (length rs - 10) h (omega arith) (omega arith) ∙ run_is rs (length rs - 10) 10 (omega arith) in
          ap (item_lines rs 0) (sym (count-many (length rs) h)) ∙ (split 0 10 11 ∙ λ i. p i ++ (g i ++ q i))

-- ---- a column

module _ (l : Lent) (c : Column) where
  rows-length : (r n : ℕ) → length (rows_from l c r n) ≡ n
  unfolding rows_from
  rows-length r zero = refl
  rows-length r (suc n) = ap suc (rows-length (suc r) n)

  pub length-rows : length (shelf_rows l c) ≡ c.rows
  length-rows = rows-length 0 c.rows

  rows_at : (r n k : ℕ) → k < n → get_or (rows_from l c r n) k no_row ≡ shelf_row_at l c (r + k)
  unfolding rows_from
  rows_at r zero k h = absurd (omega arith)
  rows_at r (suc n) zero h = rw (add-zero r)
  rows_at r (suc n) (suc k) h = let e : suc r + k ≡ r + suc k = omega arith in rows_at (suc r) n k (omega arith) ∙ ap (shelf_row_at l c) e

  -- past the rows the bit and the value are refused
  no-row : (r : ℕ) → c.rows ≤ r → no_row ≡ shelf_row_at l c r
  unfolding bit_of why_row why_run value_at why_value refuse
  no-row r h = rw (lt-ltb c.rows (r + 1) (omega arith), le-leb c.rows r h) (go (fits l c))
    where
      go : (t : Bool) → no_row ≡ row (bit_valid (answer_by (refuse Fit (not t) (Err refusal.Row)) (row_valid l c r)))
          (if_accepted (refuse Fit (not t) (Err refusal.Row)) (shown_at l c r) [])
      go true = refl
      go false = refl

  -- row r of a column, whether it has one or not
  pub row_at : (r : ℕ) → get_or (shelf_rows l c) r no_row ≡ shelf_row_at l c r
  row_at r = go (ltb r c.rows) refl
    where
      go : (t : Bool) → ltb r c.rows ≡ t → get_or (shelf_rows l c) r no_row ≡ shelf_row_at l c r
      go true e = rows_at 0 c.rows r (ltb-true r c.rows e) ∙ ap (shelf_row_at l c) (zero-add r)
      go false e =
          let h : c.rows ≤ r = ltb-false r c.rows e in
          let g : length (shelf_rows l c) ≤ r = omega (arith, length-rows) in
          get_or-eq_default (shelf_rows l c) no_row g ∙ no-row r h

  -- the opening, the items in order, and the closing lines are the listing
  pub column-whole : opening ++ (item_lines (shelf_rows l c) 0 (item_count c.rows) ++ closing_of l c) ≡ listed_column l c
  unfolding listed_column
  column-whole =
      let e : item_lines (shelf_rows l c) 0 (item_count c.rows) ≡ body (shelf_rows l c) = ap (λ (n : ℕ). item_lines (shelf_rows l c) 0 (item_count n))
      (sym length-rows) ∙ items-whole (shelf_rows l c) in
      ap (λ (z : List ℕ). opening ++ (z ++ closing_of l c)) e

-- A column that shows rows, and of which the calls tell their numbers. `answering` has it of the column of every accepted input.
pub record ShowsRows (l : Lent) (c : Column) (rs : List ShelfRow) : Type 0 where
  pub rows : shelf_rows l c ≡ rs
  pub nulls : number_is (null_run l c 0 c.rows) ≡ nulls_in rs
  pub bytes : number_is (total_bytes_len l c) ≡ valid_bytes rs
  pub long : number_is (total_buffer_bytes_used l c) ≡ block_bytes_in rs
  pub blocks : c.blocks ≡ blocks_used rs

-- a column that shows the lines' rows is listed as the answer to them
pub answered : (l : Lent) (c : Column) (s : List ℕ) → length s ≤ input_most → first_bad_line 0 (lines s) ≡ 0 → ShowsRows l c (map row_said (lines s))
    → listed_column l c
    ≡ shelf_answer s
unfolding shelf_answer answer_lines listed listed_column
answered l c s h g w =
    let n : c.rows ≡ length (map row_said (lines s)) = sym (length-rows l c) ∙ ap length w.rows in
    rw (le-ltb input_most (length s) h, g) (λ i. opening ++ (body (w.rows i) ++ closing (n i) (w.nulls i) (w.bytes i) (w.long i) (w.blocks i)))

-- the two refusals
pub answered-size : (s : List ℕ) → input_most < length s → refused_line 0 ≡ shelf_answer s
unfolding shelf_answer
answered-size s h = rw (lt-ltb input_most (length s) h)

pub answered-bad : (s : List ℕ) (n : ℕ) → length s ≤ input_most → n ≡ first_bad_line 0 (lines s) → (n ≡ 0 → ⊥) → refused_line n ≡ shelf_answer s
unfolding shelf_answer answer_lines
answered-bad s n h e g = rw (le-ltb input_most (length s) h, ← e, ne_eqb n 0 g)
