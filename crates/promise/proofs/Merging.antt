-- Over a merge table that holds, a long value that merges takes the view of its target. Start makes such a table, and so does finish; every accepted
-- call keeps it. What is needed of the rows is that each shows its bytes. Assumes nothing.
use Rattle.bounds.specs.Refusals.{accepted}
use mathlib.Core.Path.{◌≡◌, refl, sym, ap, subst, ◌∙◌}
use mathlib.Core.Bool.{Bool, true, false, true≢false}
use mathlib.Core.List.{List, [], ◌∷◌, ◌++◌}
use mathlib.Core.Option.{none}
use Prim.Native.Nat.{ℕ, zero, suc, ◌+◌, ◌≤◌, ◌<◌}
use native.Mathlib.Omega.{arith}
use borrow.Author.Tests.{lt-leb}
use lib.ListN.{length, get_or, set, replicate, get_or-append}
use lib.Seq.{get_or_at}
use Rattle.basis.specs.Pick.{pick}
use Rattle.order.specs.Order.{same}
use Rattle.hash.specs.Hash.{hash_of}
use Rattle.views.specs.ViewLaws.{view-stored}
use Rattle.views.specs.View.{view_size, short_most, is_short, short_view, zero_view, make_view, view_at}
use Rattle.merging.specs.declared.Found.{Found}
use Rattle.merging.specs.declared.Found.TheVariants.{Row, Free, Full}
use Rattle.merging.specs.Earliest.{In, earliest}
use Rattle.merging.specs.Table.{search_from, Holds}
use Rattle.merging.proofs.TableLaws as table
use Rattle.merging.proofs.TableLaws.{finds, room, kept, skipped, cleared-holds}
use Rattle.column.specs.Lent.{Lent}
use Rattle.column.specs.declared.Column.{Column}
use Rattle.builder.specs.declared.Merging.{Merging}
use Rattle.builder.specs.declared.Merging.TheVariants.{Off, On, UpTo}
use Rattle.builder.specs.declared.Settings.{Settings}
use Rattle.builder.specs.State.{Builder, builder, places_room, rows_room, all_blocks, closed, complete, fits_open, sized, make_room, lay, add_row, add_rows}
use Rattle.builder.specs.Start.{cleared, start}
use Rattle.builder.specs.Values.{merges, hits, found_by, found, why_values, store, put_found, put_value, put_values, put_null}
use Rattle.builder.specs.Others.{lay_block, lay_blocks, block_bytes, put_block, viewed, put_view, add_column, put_column}
use Rattle.builder.specs.Finish.{copied, finished}
use Rattle.promise.specs.Calls.{Cell, cell, no_value, bytes_in, Call, adds_values, adds_null, adds_block, adds_view, adds_column, finish_copy, finish, why, put, cells_added}
use Rattle.promise.specs.Merged.{Memo, memo, shown_by, target, stored_by, recall, again, Takes}
use Rattle.promise.proofs.Fits.{row-views, grow, room-is}
use Rattle.promise.proofs.Steps.{Inv}
use Rattle.promise.proofs.Gets.{rows_are, hit-is, hit-row}
use Rattle.promise.proofs.Appends.{found-hits, Valued, valued, put-suc, put-zero}
use Rattle.promise.proofs.Kept.{cell-bytes}

-- each row of the builder shows its bytes, so that the test of a hit tells the rows with given bytes from the others
pub record Reads (b : Builder) (xs : List Cell) : Type 0 where
  pub count : length xs ≡ b.state.rows
  pub hit : (x : List ℕ) (r : ℕ) → r < b.state.rows → hits b x r ≡ same (get_or xs r no_value).bytes x
  pub size : (x : List ℕ) (r : ℕ) → hits b x r ≡ true → length (view_at b.lent.views r) ≡ view_size

pub reads : {m : ℕ} (b : Builder) (xs : List Cell) → Inv m b xs → Reads b xs
reads b xs i =
    record {
      count = sym (rows_are b xs i);
      hit = λ x r h. hit-is b xs i x r h ∙ ap (λ (y : List ℕ). same y x) (cell-bytes xs r);
      size = λ x r h. (hit-row b xs i x r h).1.size;
    }

abbrev in_use : Merging → Bool
in_use Off = false
in_use On = true
in_use (UpTo n) = true

in_use_lem : (m : Merging) (n : ℕ) → merges m n ≡ true → in_use m ≡ true
in_use_lem Off n e = e
in_use_lem On n e = refl
in_use_lem (UpTo k) n e = refl

-- the merge table that earlier calls left, where it is used
pub record Table (m : Merging) (b : Builder) (k : Memo) : Type 0 where
  pub setting : b.state.merging ≡ m
  pub holds : in_use m ≡ true → Holds hash_of (merges m) (shown_by k) b.places k.stored b.state.rows

-- b' has n rows more than b, and the same merge table
record Adds (n : ℕ) (b b' : Builder) : Type 0 where
  rows : b'.state.rows ≡ b.state.rows + n
  places : b'.places ≡ b.places
  setting : b'.state.merging ≡ b.state.merging

adds-row : (v : List ℕ) (t : Bool) (b : Builder) → Adds 1 b (add_row v t b)
unfolding add_row
adds-row v t b = record { rows = omega arith; places = refl; setting = refl }

adds-rows : (n : ℕ) (v : List ℕ) (t : Bool) (b : Builder) → Adds n b (add_rows n v t b)
unfolding add_rows add_row
adds-rows zero v t b = record { rows = omega arith; places = refl; setting = refl }
adds-rows (suc n) v t b =
    let g : Adds n b (add_rows n v t b) = adds-rows n v t b in
    record { rows = omega (arith, g.rows); places = g.places; setting = g.setting }

adds-column : (n before : ℕ) (l : Lent) (c : Column) (b : Builder) → Adds n b (add_column n before l c b)
unfolding add_column add_row
adds-column zero before l c b = record { rows = omega arith; places = refl; setting = refl }
adds-column (suc n) before l c b =
    let g : Adds n b (add_column n before l c b) = adds-column n before l c b in
    record { rows = omega (arith, g.rows); places = g.places; setting = g.setting }

adds-room : (n : ℕ) (b : Builder) → Adds 0 b (make_room n b)
unfolding grow sized complete closed
adds-room n b = subst (λ (c : Builder). Adds 0 b c) (sym (room-is n b)) (go (fits_open b.state n))
  where
    go : (t : Bool) → Adds 0 b (pick t b (grow n (complete b)))
    go true = record { rows = omega arith; places = refl; setting = refl }
    go false = record { rows = omega arith; places = refl; setting = refl }

adds-store : (x : List ℕ) (b : Builder) → Adds 1 b (store x (make_room (length x) b))
unfolding store add_row lay
adds-store x b =
    let g : Adds 0 b (make_room (length x) b) = adds-room (length x) b in
    record { rows = omega (arith, g.rows); places = g.places; setting = g.setting }

-- a builder that merges has a place for each row
places-are : (m : Merging) (n places : ℕ) → merges m n ≡ true → places_room m places ≡ places
places-are Off n p e = absurd (true≢false (sym e))
places-are On n p e = refl
places-are (UpTo k) n p e = refl

value_room : (n : ℕ) (b : Builder) (x : List ℕ) → why_values (suc n) b x ≡ accepted → b.state.rows + suc n ≤ places_room b.state.merging
    (length b.places)
unfolding rows_room
value_room n b x e = let p : Valued n b x = valued n b x e in omega (arith, p.room)

rows-shift : (n : ℕ) (v : List ℕ) (b : Builder) → add_rows n v true (add_row v true b) ≡ add_rows (suc n) v true b
unfolding add_rows
rows-shift zero v b = refl
rows-shift (suc n) v b = ap (add_row v true) (rows-shift n v b)

module _ (m : Merging) (b : Builder) (k : Memo) (g : Table m b k) (s : Reads b k.rows) where
  module _ (x : List ℕ) where
    agree : in_use m ≡ true → (r : ℕ) → In r k.stored → hits b x r ≡ same (shown_by k r) x
    agree u r i = s.hit x r ((g.holds u).inside r i)

    -- the table answers the target
    found-is : table.row_of (found b x) ≡ target m k x
    unfolding found found_by
    found-is = go (merges b.state.merging (length x)) refl ∙ ap (λ (m : Merging). target m k x) g.setting
      where
        go : (t : Bool) → merges b.state.merging (length x) ≡ t
            → table.row_of (pick t (search_from b.places (hits b x) (hash_of x)) Full) ≡ pick t (earliest (shown_by k) x k.stored) none
        go true e =
            let c : merges m (length x) ≡ true = ap (λ (m : Merging). merges m (length x)) (sym g.setting) ∙ e in
            let u : in_use m ≡ true = in_use_lem m (length x) c in
            finds hash_of (merges m) (shown_by k) b.places k.stored b.state.rows (g.holds u) x (hits b x) (agree u) c
        go false e = refl

    -- what the value call does by what the table answers
    put-hit : (r : ℕ) → short_most < length x → found b x ≡ Row r → put_value x b ≡ add_row (view_at b.lent.views r) true b
    unfolding put_value put_found
    put-hit r h e = rw (lt-leb (length x) short_most h, e)

    put-free : (p : ℕ) → short_most < length x → found b x ≡ Free p
        → put_value x b ≡ store x (make_room (length x) (builder b.state b.lent (set b.places p (suc b.state.rows))))
    unfolding put_value put_found
    put-free p h e = rw (lt-leb (length x) short_most h, e)

    put_full : short_most < length x → found b x ≡ Full → put_value x b ≡ store x (make_room (length x) (builder b.state b.lent b.places))
    unfolding put_value put_found
    put_full h e = rw (lt-leb (length x) short_most h, e)

    -- the rest of the rows are copies of the first
    rest : (n : ℕ) (c : Builder) → put_value x b ≡ c → put_values (suc n) x b ≡ again n b.state.rows c
    rest n c e = put-suc n x b ∙ ap (again n b.state.rows) e

    first-view : (n : ℕ) (v : List ℕ) → length v ≡ view_size → why_values (suc n) b x ≡ accepted → view_at (add_row v true b).lent.views b.state.rows ≡ v
    unfolding add_row
    first-view n v e w = let p : Valued n b x = valued n b x w in view-stored b.lent.views v b.state.rows e (omega (arith, p.room, row-views b))

    pub takes-it : (n : ℕ) → short_most < length x → why_values (suc n) b x ≡ accepted → Takes (target m k x) n x b
    takes-it n h w = rw (← found-is) (go (found b x) refl)
      where
        go : (f : Found) → found b x ≡ f → Takes (table.row_of f) n x b
        go (Row r) e =
            let v : List ℕ = view_at b.lent.views r in
            rest n (add_row v true b) (put-hit r h e)
            ∙ ap (λ (u : List ℕ). add_rows n u true (add_row v true b)) (first-view n v (s.size x r (found-hits b x r e)) w) ∙ rows-shift n v b
        go (Free p) e = (set b.places p (suc b.state.rows), rest n _ (put-free p h e))
        go Full e = (b.places, rest n _ (put_full h e))

    -- what the other answers tell
    found-free : (p : ℕ) → found b x ≡ Free p → (merges m (length x) ≡ true) × (search_from b.places (hits b x) (hash_of x) ≡ Free p)
    unfolding found found_by
    found-free p e = go (merges b.state.merging (length x)) refl e
      where
        go : (t : Bool) → merges b.state.merging (length x) ≡ t → pick t (search_from b.places (hits b x) (hash_of x)) Full ≡ Free p
            → (merges m (length x) ≡ true) × (search_from b.places (hits b x) (hash_of x) ≡ Free p)
        go true c e = (ap (λ (m : Merging). merges m (length x)) (sym g.setting) ∙ c, e)
        go false c e = let z : ◌≡◌ {A = ℕ} 0 1 = cc in absurd (omega arith)

    found-full : b.state.rows < places_room b.state.merging (length b.places) → found b x ≡ Full → merges m (length x) ≡ false
    unfolding found found_by
    found-full l e = go (merges b.state.merging (length x)) refl e
      where
        go : (t : Bool) → merges b.state.merging (length x) ≡ t → pick t (search_from b.places (hits b x) (hash_of x)) Full ≡ Full
            → merges m (length x) ≡ false
        go true c e =
            let p : places_room b.state.merging (length b.places) ≡ length b.places = places-are b.state.merging (length x)
            (length b.places) c in
            let u : in_use m ≡ true = in_use_lem m (length x) (ap (λ (m : Merging). merges m (length x)) (sym g.setting) ∙ c) in
            absurd (room hash_of (merges m) (shown_by k) b.places k.stored b.state.rows (g.holds u) (hits b x) (hash_of x) (omega arith) e)
        go false c e = ap (λ (m : Merging). merges m (length x)) (sym g.setting) ∙ c

  -- rows that are added leave what the stored ones show
  old : in_use m ≡ true → (ys : List Cell) (r : ℕ) → In r k.stored → (get_or (k.rows ++ ys) r no_value).bytes ≡ shown_by k r
  old u ys r i =
      let h : r < b.state.rows = (g.holds u).inside r i in
      ap bytes_in (get_or-append k.rows ys no_value r (omega (arith, s.count)))

  -- rows that are no targets
  table_more : (b' : Builder) (n : ℕ) (ys : List Cell) → Adds n b b' → Table m b' (memo (k.rows ++ ys) k.stored)
  table_more b' n ys a =
      record {
        setting = a.setting ∙ g.setting;
        holds = λ u.
            subst (λ (t : List ℕ). Holds hash_of (merges m) (λ r. (get_or (k.rows ++ ys) r no_value).bytes) t k.stored b'.state.rows) (sym a.places)
            (kept hash_of (merges m) (shown_by k) b.places k.stored b.state.rows (g.holds u) (λ r. (get_or (k.rows ++ ys) r no_value).bytes)
            b'.state.rows (old u ys)
            (omega (arith, a.rows)));
      }

  module _ (n : ℕ) (x : List ℕ) (w : why_values (suc n) b x ≡ accepted) where
    abbrev all : List Cell
    all = k.rows ++ replicate (suc n) (cell x true)

    -- one row more, over the values that all rows of the call will show
    record One (b' : Builder) (stored : List ℕ) : Type 0 where
      rows : b'.state.rows ≡ suc b.state.rows
      setting : b'.state.merging ≡ m
      holds : in_use m ≡ true → Holds hash_of (merges m) (λ r. (get_or all r no_value).bytes) b'.places stored (suc b.state.rows)

    plain : (v : List ℕ) → One (add_row v true b) k.stored
    unfolding add_row
    plain v =
        record {
          rows = refl;
          setting = g.setting;
          holds = λ u.
              kept hash_of (merges m) (shown_by k) b.places k.stored b.state.rows (g.holds u) (λ r. (get_or all r no_value).bytes)
              (suc b.state.rows) (old u (replicate (suc n) (cell x true)))
              (omega arith);
        }

    laid : (places : List ℕ) → (in_use m ≡ true → Holds hash_of (merges m) (λ r. (get_or all r no_value).bytes) places (k.stored ++ b.state.rows ∷ [])
        (suc b.state.rows))
        → One (store x (make_room (length x) (builder b.state b.lent places))) (k.stored ++ b.state.rows ∷ [])
    laid places h =
        let a = adds-store x (builder b.state b.lent places) in
        record {
          rows = omega (arith, a.rows);
          setting = a.setting ∙ g.setting;
          holds = λ u.
              subst (λ (t : List ℕ). Holds hash_of (merges m) (λ r. (get_or all r no_value).bytes) t (k.stored ++ b.state.rows ∷ [])
              (suc b.state.rows)) (sym a.places) (h u);
        }

    new : (get_or all b.state.rows no_value).bytes ≡ x
    new = ap bytes_in (get_or_at k.rows (cell x true) (replicate n (cell x true)) no_value b.state.rows s.count)

    long-one : (f : Found) → found b x ≡ f → One (put_found f x b) (stored_by (table.row_of f) b.state.rows k.stored)
    unfolding put_found
    long-one (Row r) e = plain (view_at b.lent.views r)
    long-one (Free p) e =
        let u = found-free x p e in
        let c : places_room m (length b.places) ≡ length b.places = places-are m (length x) (length b.places) u.0 in
        let d : b.state.rows + suc n ≤ places_room m (length b.places) = subst (λ (m : Merging). b.state.rows + suc n ≤ places_room m
        (length b.places)) g.setting (value_room n b x w) in
        laid (set b.places p (suc b.state.rows))
        (λ v. table.entered hash_of (merges m) (shown_by k) b.places k.stored b.state.rows (g.holds v) x (λ r. (get_or all r no_value).bytes) (hits b x) p
        (agree x v) u.0 (old v (replicate (suc n) (cell x true))) new (omega arith) u.1)
    long-one Full e =
        let d : b.state.rows + suc n ≤ places_room b.state.merging (length b.places) = value_room n b x w in
        laid b.places
        (λ u. skipped hash_of (merges m) (shown_by k) b.places k.stored b.state.rows (g.holds u) x (λ r. (get_or all r no_value).bytes)
        (found-full x (omega arith) e) (old u (replicate (suc n) (cell x true))) new)

    value-one : One (put_value x b) (pick (is_short (length x)) k.stored (stored_by (target m k x) (length k.rows) k.stored))
    unfolding put_value
    value-one = go (is_short (length x))
      where
        go : (t : Bool) → One (pick t (add_row (short_view x) true b) (put_found (found b x) x b))
            (pick t k.stored (stored_by (target m k x) (length k.rows) k.stored))
        go true = plain (short_view x)
        go false = rw (← found-is x, s.count) (long-one (found b x) refl)

    table-copies : Table m (add_rows n (view_at (put_value x b).lent.views b.state.rows) true (put_value x b)) (recall m (adds_values (suc n) x) b k)
    table-copies =
        let v : List ℕ = view_at (put_value x b).lent.views b.state.rows in
        let a : Adds n (put_value x b) (add_rows n v true (put_value x b)) = adds-rows n v true (put_value x b) in
        let o = value-one in
        let st : List ℕ = pick (is_short (length x)) k.stored (stored_by (target m k x) (length k.rows) k.stored) in
        record {
          setting = a.setting ∙ o.setting;
          holds = λ u.
              subst (λ (t : List ℕ). Holds hash_of (merges m) (λ r. (get_or all r no_value).bytes) t st (add_rows n v true (put_value x b)).state.rows)
              (sym a.places)
              (kept hash_of (merges m) (λ r. (get_or all r no_value).bytes) (put_value x b).places st (suc b.state.rows) (o.holds u)
              (λ r. (get_or all r no_value).bytes)
              (add_rows n v true (put_value x b)).state.rows (λ r i. refl) (omega (arith, a.rows, o.rows)));
        }

    table-values : Table m (put_values (suc n) x b) (recall m (adds_values (suc n) x) b k)
    table-values = rw (put-suc n x b) table-copies

  module _ (l : Lent) (c : Column) where
    abbrev base : Builder
    base = lay_blocks c.blocks (block_bytes l) (complete b)

    adds-blocks : (n : ℕ) → Adds 0 b (lay_blocks n (block_bytes l) (complete b))
    unfolding lay_blocks lay_block complete closed
    adds-blocks zero = record { rows = omega arith; places = refl; setting = refl }
    adds-blocks (suc n) = let a = adds-blocks n in record { rows = a.rows; places = a.places; setting = a.setting }

    adds-base : Adds 0 b base
    adds-base = adds-blocks c.blocks

    adds-whole : Adds c.rows b (put_column l c b)
    unfolding put_column
    adds-whole =
        let o = adds-base in
        let a : Adds c.rows base (add_column c.rows (all_blocks b.state) l c base) = adds-column c.rows (all_blocks b.state) l c base in
        record { rows = omega (arith, a.rows, o.rows); places = a.places ∙ o.places; setting = a.setting ∙ o.setting }

  adds-block : (x : List ℕ) → Adds 0 b (put_block x b)
  unfolding put_block lay_block complete closed
  adds-block x = record { rows = omega arith; places = refl; setting = refl }

  adds-copy : Adds 0 b (copied b)
  unfolding copied
  adds-copy = record { rows = omega arith; places = refl; setting = refl }

  adds-view : (block offset n : ℕ) → Adds 1 b (put_view block offset n b)
  unfolding put_view
  adds-view block offset n = adds-row (make_view (viewed b block offset n) block offset) true b

  adds-null : Adds 1 b (put_null b)
  unfolding put_null
  adds-null = adds-row zero_view false b

  table_none : (x : List ℕ) → Table m (put_values zero x b) (memo (k.rows ++ []) k.stored)
  table_none x = rw (put-zero x b) (table_more b 0 [] (record { rows = omega arith; places = refl; setting = refl }))

-- start clears the table, and so does finish
cleared-table : (m : Merging) (places : List ℕ) → in_use m ≡ true → Holds hash_of (merges m) (shown_by (memo [] [])) (cleared m places) [] 0
unfolding cleared
cleared-table Off places u = absurd (true≢false (sym u))
cleared-table On places u = cleared-holds hash_of (merges On) (shown_by (memo [] [])) (length places)
cleared-table (UpTo n) places u = cleared-holds hash_of (merges (UpTo n)) (shown_by (memo [] [])) (length places)

pub table-start : (t : Settings) (l : Lent) (places : List ℕ) → Table t.merging (start t l places) (memo [] [])
unfolding start
table-start t l places = record { setting = refl; holds = cleared-table t.merging places }

table-finish : (m : Merging) (b : Builder) → b.state.merging ≡ m → Table m (finished b) (memo [] [])
unfolding finished
table-finish m b e =
    subst (λ (z : Merging). Table z (finished b) (memo [] [])) e (record { setting = refl; holds = cleared-table b.state.merging b.places })

-- any call: what the rows of a view or a column show doesn't matter, for none of them becomes a target
pub table-put : (m : Merging) (b : Builder) (k : Memo) → Table m b k → Reads b k.rows → (c : Call) → why c b ≡ accepted → Table m (put c b) (recall m c b k)
table-put m b k g s (adds_values zero x) w = table_none m b k g s x
table-put m b k g s (adds_values (suc n) x) w = table-values m b k g s n x w
table-put m b k g s adds_null w = table_more m b k g s (put_null b) 1 (cells_added adds_null b) (adds-null m b k g s)
table-put m b k g s (adds_block x) w = table_more m b k g s (put_block x b) 0 [] (adds-block m b k g s x)
table-put m b k g s (adds_view block offset n) w = table_more m b k g s (put_view block offset n b) 1 (cells_added (adds_view block offset n) b)
    (adds-view m b k g s block offset n)
table-put m b k g s (adds_column l c) w = table_more m b k g s (put_column l c b) c.rows (cells_added (adds_column l c) b) (adds-whole m b k g s l c)
table-put m b k g s finish_copy w = table_more m b k g s (copied b) 0 [] (adds-copy m b k g s)
table-put m b k g s finish w = table-finish m b g.setting
