-- Every accepted call keeps what the rows show and adds rows that show what it puts there, so that every row is kept. Assumes nothing.
use Rattle.std.specs.Prelude.{Ok}
use mathlib.Core.Path.{◌≡◌, refl, sym, ap, ◌∙◌, subst}
use mathlib.Core.Bool.{true}
use mathlib.Core.List.{List, [], ◌∷◌, ◌++◌, map, map-append, append-nil}
use Prim.Native.Nat.{ℕ, zero, suc, ◌<◌}
use native.Mathlib.Nat.{le_of_suc-le-suc, not-suc-le-zero}
use native.Mathlib.Omega.{arith}
use lib.ListN.{length, get_or, length-map, get_or-map}
use Rattle.bounds.specs.Refusals.{refuse, is_accepted, accepted, answered}
use Rattle.column.specs.declared.Kind.{Kind}
use Rattle.column.specs.declared.Column.{Column}
use Rattle.column.specs.Lent.{Lent}
use Rattle.column.specs.Truth.{of_kind}
use Rattle.column.specs.Laid.{rows_of}
use Rattle.showing.specs.Shows.{Shows}
use Rattle.showing.proofs.ShowsLaws.{shows-rows}
use Rattle.order.specs.Order.{cmp}
use Rattle.comparison.specs.Compare.{compare_rows, order_of}
use Rattle.compaction.proofs.Compacted.{compacted-shows}
use Rattle.offsets.specs.Offsets.{Source, rows_in, valid_row, value_in, why_offsets, from_offsets, offset_column}
use Rattle.offsets.proofs.Shown.{offsets-shows, offsets-kind}
use Rattle.reading.specs.Reading.{why_value, value_at, bit_of}
use Rattle.builder.specs.State.{Builder, rows_room}
use Rattle.builder.specs.Start.{start}
use Rattle.builder.specs.Get.{column_of}
use Rattle.builder.specs.Finish.{why_finish, copied, finished}
use Rattle.promise.specs.Calls.{Cell, cell, no_value, bytes_in, valid_in, Call, adds_values, adds_null, adds_block, adds_view, adds_column, finish_copy, finish, why, put, cells_after, rows_after, Ran, none, more}
use Rattle.promise.specs.Kept.{Keeps, Filed, done, converted, again, Shown, Reached, by_calls, Kept}
use Rattle.promise.proofs.Answers.{why-shows, value-shows, bit-shows, compare-shows}
use Rattle.promise.proofs.Fits.{are-fits}
use Rattle.promise.proofs.Steps.{Inv, OfKind, knil, kind-snoc}
use Rattle.promise.proofs.Gets.{rows_are, get-why, get_value_lem}
use Rattle.promise.proofs.Appends.{inv-values, inv-null}
use Rattle.promise.proofs.Finishing.{inv-start, inv-finish, shows-finished, check-shown}
use Rattle.promise.proofs.Others.{inv-copy, inv-block, ranged, inv-view}
use Rattle.promise.proofs.Columns.{joined, inv-column, done-column}
use Rattle.promise.proofs.Standing.{done-block, stays_put}

-- ---- any call, and any run of calls

none_more : {m : ℕ} (b : Builder) (xs : List Cell) → Inv m b xs → Inv m b (xs ++ [])
none_more {m} b xs i = subst (λ (ys : List Cell). Inv m b ys) (sym (append-nil xs)) i

pub inv-put : {m : ℕ} (c : Call) (b : Builder) (xs : List Cell) → Inv m b xs → why c b ≡ accepted → Inv m (put c b) (cells_after c b xs)
inv-put (adds_values n x) b xs i w = inv-values n b xs x i w
inv-put adds_null b xs i w = inv-null b xs i w
inv-put (adds_block x) b xs i w = none_more _ xs (inv-block b xs x i w)
inv-put (adds_view k offset n) b xs i w = inv-view b xs k offset n i (ranged b k offset n w)
inv-put (adds_column l c) b xs i w = inv-column b xs l c i (joined b l c w)
inv-put finish_copy b xs i w = none_more _ xs (inv-copy b xs i)
inv-put finish b xs i w = inv-finish b xs i

pub inv-ran : {m : ℕ} {cs : List Call} {b e : Builder} (xs : List Cell) → Ran cs b e → Inv m b xs → Inv m e (rows_after cs b xs)
unfolding rows_after
inv-ran xs none i = i
inv-ran xs (more {c = c} {cs} {b} w r) i = inv-ran (cells_after c b xs) r (inv-put c b xs i w)

-- ---- what a column that shows cells answers

pub cell-bit : (xs : List Cell) (i : ℕ) → i < length xs → get_or (map valid_in xs) i true ≡ (get_or xs i no_value).valid
cell-bit [] i h = absurd (not-suc-le-zero h)
cell-bit (x ∷ xs) zero h = refl
cell-bit (x ∷ xs) (suc i) h = cell-bit xs i (le_of_suc-le-suc h)

pub cell-bytes : (xs : List Cell) (i : ℕ) → get_or (map bytes_in xs) i [] ≡ (get_or xs i no_value).bytes
cell-bytes xs i = get_or-map bytes_in xs i no_value

module _ (xs : List Cell) {l : Lent} {c : Column} (s : Shows l c (map bytes_in xs) (map valid_in xs)) where
  pub rows-shown : c.rows ≡ length xs
  rows-shown = shows-rows s ∙ length-map xs bytes_in

  pub why-shown : (i : ℕ) → i < length xs → why_value l c i ≡ accepted
  why-shown i h = why-shows s i (omega (arith, rows-shown))

  pub value-shown : (i : ℕ) → i < length xs → value_at l c i ≡ (get_or xs i no_value).bytes
  value-shown i h = value-shows s i (omega (arith, rows-shown)) ∙ cell-bytes xs i

  pub bit-shown : (i : ℕ) → i < length xs → bit_of l c i ≡ answered accepted (get_or xs i no_value).valid
  bit-shown i h = bit-shows s i (omega (arith, rows-shown)) ∙ ap (answered accepted) (cell-bit xs i h)

module _ (xs ys : List Cell) {l : Lent} {c : Column} {m : Lent} {d : Column}
    (s : Shows l c (map bytes_in xs) (map valid_in xs)) (t : Shows m d (map bytes_in ys) (map valid_in ys)) where
  compare-shown : (i j : ℕ) → i < length xs → j < length ys
      → compare_rows l c i m d j ≡ Ok (order_of (cmp (get_or xs i no_value).bytes (get_or ys j no_value).bytes))
  compare-shown i j h k =
      compare-shows s t i j (omega (arith, rows-shown xs s)) (omega (arith, rows-shown ys t))
      ∙ ap (λ (x : List ℕ). Ok (order_of (cmp x (get_or (map bytes_in ys) j [])))) (cell-bytes xs i)
      ∙ ap (λ (y : List ℕ). Ok (order_of (cmp (get_or xs i no_value).bytes y))) (cell-bytes ys j)

-- ---- what is kept

module _ {m : ℕ} (b : Builder) (xs : List Cell) (i : Inv m b xs) where
  finishes : why_finish b ≡ accepted
  unfolding why_finish refuse
  finishes = rw (are-fits b i.fits)

  copies : (copied b).lent ≡ (finished b).lent
  unfolding copied finished
  copies = refl

  keeps : Keeps b xs
  keeps =
      record {
        rows = rows_are b xs i;
        accepts = λ r h. get-why b xs i r (omega (arith, rows_are b xs i));
        gets = λ r h. get_value_lem b xs i r (omega (arith, rows_are b xs i)) ∙ cell-bytes xs r;
        finishes = finishes;
        copies = copies;
      }

-- a column of xs shows them, and they are of its kind
record Files (xs : List Cell) (l : Lent) (c : Column) : Type 0 where
  shows : Shows l c (map bytes_in xs) (map valid_in xs)
  kinds : OfKind c.kind xs

map_rows : {A B : Type 0} (f : A → B) (g : ℕ → A) (n : ℕ) → map f (rows_of g n) ≡ rows_of (λ r. f (g r)) n
unfolding rows_of
map_rows f g zero = refl
map_rows f g (suc n) = map-append f (rows_of g n) (g n ∷ []) ∙ rw (map_rows f g n)

kinds-rows : (k : Kind) (f : ℕ → Cell) (n : ℕ) → ((r : ℕ) → r < n → of_kind k (f r).bytes ≡ true) → OfKind k (rows_of f n)
unfolding rows_of
kinds-rows k f zero h = knil
kinds-rows k f (suc n) h = kind-snoc (f n) (kinds-rows k f n (λ r l. h r (omega arith))) (h n (omega arith))

-- an offset column's rows, and that they are of its kind
offset-files : (s : Source) (k : Kind) (out : Lent) → is_accepted (why_offsets 4 s k out) ≡ true
    → Files (rows_of (λ r. cell (value_in 4 s r) (valid_row 4 s r)) (rows_in 4 s)) (from_offsets 4 s out) (offset_column 4 s k)
offset-files s k out a =
    let f : ℕ → Cell = λ r. cell (value_in 4 s r) (valid_row 4 s r) in
    record {
      shows = rw (map_rows bytes_in f (rows_in 4 s), map_rows valid_in f (rows_in 4 s)) (offsets-shows 4 s k out a);
      kinds = kinds-rows k f (rows_in 4 s) (λ r h. offsets-kind 4 s k out a r h);
    }

filed : (xs : List Cell) {l : Lent} {c : Column} → Filed xs l c → Files xs l c
filed xs (done t l places cs b w r e) =
    let i = inv-ran [] r (inv-start t l places w) in
    subst (λ (ys : List Cell). Files ys (finished b).lent (column_of b)) e (record { shows = shows-finished b _ i; kinds = i.kinds })
filed xs (converted s k out w e) =
    let a : is_accepted (why_offsets 4 s k out) ≡ true = ap is_accepted w in
    subst (λ (ys : List Cell). Files ys (from_offsets 4 s out) (offset_column 4 s k)) e (offset-files s k out a)
filed xs (again most out {l} {c} d w) =
    let f = filed xs d in
    record { shows = compacted-shows most l c out f.shows w; kinds = f.kinds }

shown : (xs : List Cell) {l : Lent} {c : Column} → Files xs l c → Shown xs l c
shown xs f =
    let s = f.shows in
    record { rows = rows-shown xs s; accepts = why-shown xs s; bytes = value-shown xs s; bits = bit-shown xs s; checks = check-shown xs s f.kinds }

-- a builder that calls left, with what its rows show
record Known (b : Builder) : Type 0 where
  room : ℕ
  cells : List Cell
  inv : Inv room b cells

known : (b : Builder) → Reached b → Known b
known b (by_calls t l places cs _ w r) =
    record { room = rows_room (start t l places); cells = rows_after cs (start t l places) []; inv = inv-ran [] r (inv-start t l places w) }

pub kept : Kept
kept =
    record {
      keeps = λ t l places cs b w r. keeps b (rows_after cs (start t l places) []) (inv-ran [] r (inv-start t l places w));
      shows = λ xs d. shown xs (filed xs d);
      compares = λ xs ys d e. compare-shown xs ys (filed xs d).shows (filed ys e).shows;
      stay = λ b g c w. let k = known b g in stays_put c b k.cells k.inv w;
      block = λ b g x w. let k = known b g in done-block b k.cells x k.inv w;
      column = λ b g l c w. let k = known b g in done-column b k.cells l c k.inv (joined b l c w);
    }
