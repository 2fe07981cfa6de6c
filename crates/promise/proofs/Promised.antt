-- The third promise holds: it is what is kept, of value and null calls alone. Assumes nothing.
use mathlib.Core.Path.{◌≡◌, refl, sym, ap, ◌∙◌}
use mathlib.Core.Bool.{true}
use mathlib.Core.List.{List, [], ◌∷◌, ◌++◌, map, map-append, append-nil, append_assoc}
use Prim.Native.Nat.{ℕ, zero, suc, ◌<◌}
use lib.ListN.{length, get_or, replicate, length-map, get_or-map}
use Rattle.column.specs.declared.Column.{Column}
use Rattle.column.specs.Lent.{Lent}
use Rattle.builder.specs.State.{Builder}
use Rattle.compaction.proofs.Bound.{compacted-bounded}
use Rattle.promise.specs.Calls.{Cell, cell, no_value, rows_after, Item, value, null, item_bytes, is_value, cell_for, Entry, values, nulls, call, appended}
use Rattle.promise.specs.Kept.{Filed, done}
use Rattle.promise.specs.Kept as files
use Rattle.promise.specs.Made.{Made, built, again, Faithful, Ordered, Promise}
use Rattle.promise.proofs.Kept.{kept}

-- value and null calls put what they append
copies-for : (n : ℕ) (x : List ℕ) → replicate n (cell x true) ≡ map cell_for (replicate n (value x))
copies-for zero x = refl
copies-for (suc n) x = ap (λ (r : List Cell). cell x true ∷ r) (copies-for n x)

rows-for : (es : List Entry) (b : Builder) (xs : List Cell) → rows_after (map call es) b xs ≡ xs ++ map cell_for (appended es)
unfolding rows_after appended
rows-for [] b xs = sym (append-nil xs)
rows-for (values n x ∷ es) b xs =
    rows-for es _ (xs ++ replicate n (cell x true)) ∙ append_assoc xs (replicate n (cell x true)) (map cell_for (appended es))
    ∙ ap (λ (r : List Cell). xs ++ r) (rw (copies-for n x) (sym (map-append cell_for (replicate n (value x)) (appended es))))
rows-for (nulls ∷ es) b xs = rows-for es _ (xs ++ no_value ∷ []) ∙ append_assoc xs (no_value ∷ []) (map cell_for (appended es))

pub filed : (xs : List Item) {l : Lent} {c : Column} → Made xs l c → Filed (map cell_for xs) l c
filed xs (built t l places cs b w e r f) = done t l places (map call cs) b w r (rows-for cs _ [] ∙ ap (map cell_for) e)
filed xs (again most out d w) = files.again most out (filed xs d) w

for-bytes : (x : Item) → (cell_for x).bytes ≡ item_bytes x
for-bytes (value x) = refl
for-bytes null = refl

for-bit : (x : Item) → (cell_for x).valid ≡ is_value x
for-bit (value x) = refl
for-bit null = refl

module _ (xs : List Item) where
  item-at : (i : ℕ) → get_or (map cell_for xs) i no_value ≡ cell_for (get_or xs i null)
  item-at i = get_or-map cell_for xs i null

  item-bytes : (i : ℕ) → (get_or (map cell_for xs) i no_value).bytes ≡ item_bytes (get_or xs i null)
  item-bytes i = rw (item-at i) (for-bytes (get_or xs i null))

  item-bit : (i : ℕ) → (get_or (map cell_for xs) i no_value).valid ≡ is_value (get_or xs i null)
  item-bit i = rw (item-at i) (for-bit (get_or xs i null))

  there : (i : ℕ) → i < length xs → i < length (map cell_for xs)
  there i h = rw length-map h

  faithful : {l : Lent} {c : Column} → Made xs l c → Faithful xs l c
  faithful d =
      let s = kept.shows (map cell_for xs) (filed xs d) in
      record {
        rows = s.rows ∙ length-map xs cell_for;
        accepts = λ i h. s.accepts i (there i h);
        values = λ i h. s.bytes i (there i h) ∙ item-bytes i;
        bits = λ i h. s.bits i (there i h) ∙ rw (item-bit i);
      }

  ordered : {l : Lent} {c : Column} {m : Lent} {d : Column} → Made xs l c → Made xs m d → Ordered xs l c m d
  ordered p q =
      record {
        order = λ i j h k. rw (← item-bytes i, ← item-bytes j) (kept.compares (map cell_for xs) (map cell_for xs) (filed xs p) (filed xs q) i j
            (there i h) (there j k));
      }

-- any list of values and nulls
pub promised : (xs : List Item) → Promise xs
promised xs =
    record {
      shows = λ d. faithful xs d;
      compares = λ d e. ordered xs d e;
      bounds = λ most out {l} {c} d w. compacted-bounded most l c out w;
    }
