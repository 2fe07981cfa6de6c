-- The table of two number slices, and what it tells that a column's numbers fit. Assumes nothing.
use Rattle.std.specs.Prelude.{◌≡◌, Bool, true, false, ◌&&◌, List, [], ◌∷◌, leb, length, get_or}
use Rattle.std.proofs.Math.Path.{refl}
use Rattle.std.proofs.Common.{sym, subst, ◌∙◌, not-suc-le-zero, add-one}
use Rattle.std.proofs.Math.Logic.{by_cases}
use Prim.Native.Nat.{ℕ, zero, suc, ◌+◌, ◌*◌, ◌/◌, min, ◌≤◌, ◌<◌}
use Rattle.std.proofs.Math.Decide.{ℕ_discrete}
use native.Mathlib.Omega.{arith}
use borrow.Author.Tests.{le-leb, lt-leb, leb-true, leb-false}
use Rattle.bounds.specs.Bounds.{row_limit, block_limit, byte_limit}
use Rattle.views.specs.View.{view_size}
use Rattle.column.specs.declared.Block.{Block}
use Rattle.column.specs.declared.Column.{Column}
use Rattle.column.specs.Lent.{Lent, block, buffers, block_at, all_in_data, table_of, lent, map_room, row_room, block_room, data_room, fits, in_data}
use Rattle.column.specs.Room.{bare, InRoom, Listed}

-- two tests that ask the same
pub leb-same : (a b p q : ℕ) → (a ≤ b → p ≤ q) → (p ≤ q → a ≤ b) → leb a b ≡ leb p q
leb-same a b p q f g = by (leb p q) refl
  where
    by : (t : Bool) → leb p q ≡ t → leb a b ≡ t
    by true e = le-leb a b (g (leb-true p q e))
    by false e = by_side (leb a b) refl (leb-false p q e)
      where
        by_side : (u : Bool) → leb a b ≡ u → q < p → u ≡ false
        by_side true d l = absurd (let h = f (leb-true a b d) in omega arith)
        by_side false d l = refl

-- both tests hold, and one of two doesn't
pub and_left : (a b : Bool) → a && b ≡ true → a ≡ true
and_left true b h = refl
and_left false b h = h

pub and_right : (a b : Bool) → a && b ≡ true → b ≡ true
and_right true b h = h
and_right false b h = absurd (let z : ◌≡◌ {A = ℕ} 0 1 = cc in omega arith)

pub and_no : (a b : Bool) → b ≡ false → false ≡ a && b
and_no true b h = sym h
and_no false b h = refl

-- the bytes that hold the bits of so many rows
pub map-bytes : (rows n : ℕ) → leb ((rows + 7) / 8) n ≡ leb rows (8 * n)
map-bytes rows n = leb-same ((rows + 7) / 8) n rows (8 * n) (λ h. omega arith) (λ h. omega arith)

-- ---- the table

pub length-table : (ss ns : List ℕ) → length (table_of ss ns) ≡ min (length ss) (length ns)
unfolding table_of
length-table [] ns = omega arith
length-table (s ∷ ss) [] = omega arith
length-table (s ∷ ss) (n ∷ ns) = omega (arith, length-table ss ns)

pub table_at : (ss ns : List ℕ) (k : ℕ) → k < length ss → k < length ns → get_or (table_of ss ns) k (block 0 0) ≡ block (get_or ss k 0) (get_or ns k 0)
unfolding table_of
table_at [] ns k h g = absurd (not-suc-le-zero h)
table_at (s ∷ ss) [] k h g = absurd (not-suc-le-zero g)
table_at (s ∷ ss) (n ∷ ns) zero h g = refl
table_at (s ∷ ss) (n ∷ ns) (suc k) h g = table_at ss ns k (omega arith) (omega arith)

-- ---- a block lies in the data

module _ (l : Lent) (s n : ℕ) where
  pub in-data-not : byte_limit < s + n → false ≡ in_data l (block s n)
  unfolding in_data data_room
  in-data-not h = rw (lt-leb (s + n) (data_room l) (omega arith))

  pub in-data-is : s + n ≤ byte_limit → leb (s + n) (length l.bytes) ≡ in_data l (block s n)
  unfolding in_data data_room
  in-data-is h = leb-same (s + n) (length l.bytes) (s + n) (data_room l) (λ g. omega arith) (λ g. omega arith)

  pub in-data-gives : in_data l (block s n) ≡ true → (s + n ≤ byte_limit) × (s + n ≤ length l.bytes)
  unfolding in_data data_room
  in-data-gives h = let g = leb-true (s + n) (data_room l) h in (omega arith, omega arith)

-- the blocks of a table of two number slices
module _ (views bytes starts lens nulls : List ℕ) where
  abbrev tabled : Lent
  tabled = lent views bytes starts lens nulls

  pub block-in-data : (k : ℕ) → k < length starts → k < length lens → in_data (buffers [] bytes [] []) (block (get_or starts k 0) (get_or lens k 0))
      ≡ in_data tabled (block_at tabled k)
  unfolding in_data data_room
  block-in-data k h g = rw (table_at starts lens k h g)

  pub all_none : all_in_data tabled 0 ≡ true
  unfolding all_in_data
  all_none = refl

  pub all_more : (k : ℕ) → k < length starts → k < length lens → all_in_data tabled k ≡ true → in_data (buffers [] bytes [] [])
      (block (get_or starts k 0) (get_or lens k 0)) ≡ true → all_in_data tabled (k + 1) ≡ true
  unfolding all_in_data
  all_more k h g a i = rw (add-one k, a, ← block-in-data k h g, i)

  pub all-not : (k n : ℕ) → k < n → k < length starts → k < length lens → in_data (buffers [] bytes [] []) (block (get_or starts k 0) (get_or lens k 0))
      ≡ false → false ≡ all_in_data tabled n
  unfolding all_in_data
  all-not k zero l h g i = absurd (not-suc-le-zero l)
  all-not k (suc n) l h g i =
      by_cases (ℕ_discrete k n)
      (λ e. and_no (all_in_data tabled n) (in_data tabled (block_at tabled n)) (subst (λ (j : ℕ). in_data tabled (block_at tabled j) ≡ false) e
      (sym (block-in-data k h g) ∙ i)))
      (λ d. rw (← all-not k n (omega arith) h g i))

  pub all-each : (n k : ℕ) → n ≤ length starts → n ≤ length lens → all_in_data tabled n ≡ true → k < n → in_data (buffers [] bytes [] [])
      (block (get_or starts k 0) (get_or lens k 0)) ≡ true
  all-each n k s t a l = by (in_data (buffers [] bytes [] []) (block (get_or starts k 0) (get_or lens k 0))) refl
    where
      by : (b : Bool) → in_data (buffers [] bytes [] []) (block (get_or starts k 0) (get_or lens k 0)) ≡ b → b ≡ true
      by true e = refl
      by false e = all-not k n l (omega arith) (omega arith) e ∙ a

  -- neither the views nor the null map is asked
  pub all-bare : (n : ℕ) → all_in_data tabled n ≡ all_in_data (bare [] bytes starts lens) n
  unfolding all_in_data in_data data_room
  all-bare zero = refl
  all-bare (suc n) = rw (all-bare n)

-- ---- a column fits

-- what the numbers of a column that fits keep to
pub record Fitting (vs ss ns ms : List ℕ) (c : Column) : Type 0 where
  pub rows : c.first + c.rows ≤ row_limit
  pub views : view_size * (c.first + c.rows) ≤ length vs
  pub bits : c.mapped ≡ true → c.first + c.rows ≤ 8 * length ms
  pub blocks : c.blocks ≤ block_limit
  pub starts : c.blocks ≤ length ss
  pub lens : c.blocks ≤ length ns

-- the tests one by one, over any table: what fails the column
module _ (views bytes nulls : List ℕ) (table : List Block) (c : Column) where
  abbrev l : Lent
  l = buffers views bytes table nulls

  rows-over : row_room c.mapped l < c.first + c.rows → false ≡ fits l c
  unfolding fits
  rows-over h = rw (lt-leb (c.first + c.rows) (row_room c.mapped l) h)

  pub over-limit : row_limit < c.first + c.rows → false ≡ fits l c
  unfolding row_room
  over-limit h = rows-over (omega arith)

  pub over-views : length views / view_size < c.first + c.rows → false ≡ fits l c
  unfolding row_room
  over-views h = rows-over (omega arith)

  pub over-map : leb (c.first + c.rows) (map_room c.mapped nulls) ≡ false → false ≡ fits l c
  unfolding row_room
  over-map h = let g = leb-false (c.first + c.rows) (map_room c.mapped nulls) h in rows-over (omega arith)

  pub over-blocks : block_limit < c.blocks → false ≡ fits l c
  unfolding fits block_room
  over-blocks h = and_no (leb (c.first + c.rows) (row_room c.mapped l)) (leb c.blocks (block_room l)) (lt-leb c.blocks (block_room l) (omega arith))

  -- where none does, the count of the records says it
  pub fits-is : (count : ℕ) → count ≡ length table → c.first + c.rows ≤ row_limit → c.first + c.rows ≤ length views / view_size
      → leb (c.first + c.rows) (map_room c.mapped nulls) ≡ true → c.blocks ≤ block_limit → leb c.blocks count ≡ fits l c
  unfolding fits row_room block_room
  fits-is count e h v m b =
      let g = leb-true (c.first + c.rows) (map_room c.mapped nulls) m in
      rw (le-leb (c.first + c.rows) (row_room c.mapped l) (omega arith))
      (leb-same c.blocks count c.blocks (block_room l) (λ k. omega arith) (λ k. omega arith))

  -- a row of a column that fits is in the views
  pub fits-view : (r : ℕ) → fits l c ≡ true → r < c.rows → view_size * (c.first + r) + view_size ≤ length views
  unfolding fits row_room
  fits-view r h k =
      let f = leb-true (c.first + c.rows) (row_room c.mapped l) (and_left (leb (c.first + c.rows) (row_room c.mapped l))
      (leb c.blocks (block_room l)) h) in
      omega arith

  -- and below the limit
  pub fits-limit : (r : ℕ) → fits l c ≡ true → r < c.rows → c.first + r < row_limit
  unfolding fits row_room
  fits-limit r h k =
      let f = leb-true (c.first + c.rows) (row_room c.mapped l) (and_left (leb (c.first + c.rows) (row_room c.mapped l))
      (leb c.blocks (block_room l)) h) in
      omega arith

module _ (views bytes starts lens nulls : List ℕ) (c : Column) where
  abbrev buffered : Lent
  buffered = lent views bytes starts lens nulls

  row_room_lem : fits buffered c ≡ true → c.first + c.rows ≤ min row_limit (min (length views / 16) (map_room c.mapped nulls))
  unfolding fits row_room
  row_room_lem h = leb-true (c.first + c.rows) (row_room c.mapped buffered) (and_left (leb (c.first + c.rows) (row_room c.mapped buffered))
      (leb c.blocks (block_room buffered)) h)

  block_room_lem : fits buffered c ≡ true → c.blocks ≤ min block_limit (min (length starts) (length lens))
  unfolding fits block_room
  block_room_lem h = rw (← length-table starts lens) (leb-true c.blocks (block_room buffered)
      (and_right (leb (c.first + c.rows) (row_room c.mapped buffered)) (leb c.blocks (block_room buffered)) h))

  pub fits_gives : fits buffered c ≡ true → Fitting views starts lens nulls c
  fits_gives h =
      let rows = row_room_lem h in
      let blocks = block_room_lem h in
      record {
        rows = omega arith;
        views = omega arith;
        bits = λ m. let r : c.first + c.rows ≤ map_room c.mapped nulls = omega arith in rw m at r;
        blocks = omega arith;
        starts = omega arith;
        lens = omega arith;
      }

  -- the leaves over a row may be asked
  pub fits-row : (r : ℕ) → fits buffered c ≡ true → r < c.rows → InRoom views starts lens c.blocks (c.first + r)
  fits-row r h l =
      let g = fits_gives h in
      record { row = omega arith; starts = g.starts; lens = g.lens }

  pub fits-listed : fits buffered c ≡ true → Listed starts lens c.blocks
  fits-listed h = let g = fits_gives h in record { starts = g.starts; lens = g.lens }
