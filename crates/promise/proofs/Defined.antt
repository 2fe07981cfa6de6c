-- The library that the definitions say meets what is asked of one, by the third promise. Assumes nothing.
use mathlib.Core.Path.{◌≡◌, refl, sym, ap, ◌∙◌}
use mathlib.Core.Bool.{Bool, true, false, true≢false, ◌&&◌}
use mathlib.Core.List.{List, [], ◌∷◌, map}
use Prim.Native.Nat.{ℕ, zero, suc, ◌<◌}
use native.Mathlib.Omega.{arith}
use lib.ListN.{length, get_or, length-map}
use Rattle.bounds.specs.Refusals.{is_accepted}
use Rattle.builder.specs.declared.Settings.{Settings}
use Rattle.builder.specs.State.{Builder}
use Rattle.builder.specs.Start.{start}
use Rattle.builder.specs.Values.{why_values, put_values}
use Rattle.column.specs.Lent.{Lent}
use Rattle.promise.specs.Calls.{Item, value, null, item_bytes, adds_values, Entry, values, call, appended, Ran, none, more}
use Rattle.promise.specs.Made.{Made, built}
use Rattle.promise.proofs.Gets.{is-accepted}
use Rattle.promise.proofs.Promised.{promised}
use Rattle.promise.specs.Library.{defined, append_all, accepts, lent_by, library_column, Passes, Meets}

one_each : List (List ℕ) → List Entry
one_each xs = map (values 1) xs

items : (xs : List (List ℕ)) → appended (one_each xs) ≡ map value xs
unfolding appended one_each
items [] = refl
items (x ∷ xs) = ap (λ (ys : List Item). value x ∷ ys) (items xs)

item-at : (xs : List (List ℕ)) (i : ℕ) → i < length xs → item_bytes (get_or (map value xs) i null) ≡ get_or xs i []
item-at [] i h = absurd (omega arith)
item-at (x ∷ xs) zero h = refl
item-at (x ∷ xs) (suc i) h = item-at xs i (omega arith)

run : (xs : List (List ℕ)) (b : Builder) → accepts defined xs b ≡ true → Ran (map call (one_each xs)) b (append_all defined xs b)
unfolding append_all accepts one_each
run [] b e = none
run (x ∷ xs) b e = go (is_accepted (why_values 1 b x)) refl e (run xs (put_values 1 x b))
  where
    go : (t : Bool) → is_accepted (why_values 1 b x) ≡ t → t && accepts defined xs (put_values 1 x b) ≡ true
        → (accepts defined xs (put_values 1 x b) ≡ true → Ran (map call (map (values 1) xs)) (put_values 1 x b) (append_all defined xs (put_values 1 x b)))
        → Ran (adds_values 1 x ∷ map call (map (values 1) xs)) b (append_all defined xs (put_values 1 x b))
    go true w e rest = more (is-accepted (why_values 1 b x) w) (rest e)
    go false w e rest = absurd (true≢false (sym e))

module _ (xs : List (List ℕ)) (t : Settings) (l : Lent) (places : List ℕ) (p : Passes defined xs t l places) where
  made : Made (map value xs) (lent_by defined xs t l places) (library_column defined xs t l places)
  made =
      built t l places (one_each xs) (append_all defined xs (start t l places)) p.start (items xs) (run xs (start t l places) p.values) p.finish

  at : (i : ℕ) → i < length xs → i < length (map value xs)
  at i h = rw length-map h

pub defined-meets : Meets defined
defined-meets =
    record {
      exactly = λ b x. refl;
      blocks = λ b. refl;
      nulls = λ l c first count. refl;
      bytes = λ l c. refl;
      shows = λ {t} {l} {places} xs i p h. ((promised (map value xs)).shows (made xs t l places p)).values i (at xs t l places p i h) ∙ item-at xs i h;
      orders = λ {t} {l} {places} xs i j p h k.
          rw (← item-at xs i h, ← item-at xs j k)
          (((promised (map value xs)).compares (made xs t l places p) (made xs t l places p)).order i j (at xs t l places p i h) (at xs t l places p j k));
    }
