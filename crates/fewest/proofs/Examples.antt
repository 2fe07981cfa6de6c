-- The examples hold: each side computes to the other. Assumes nothing.
use mathlib.Core.Path.{◌≡◌, refl, ap}
use mathlib.Core.Bool.{Bool, true, ◌&&◌}
use mathlib.Core.List.{List, [], ◌∷◌, map, flatten}
use Prim.Native.Nat.{ℕ, zero, suc, ◌<◌}
use native.Mathlib.Omega.{arith}
use lib.ListN.{length, get_or}
use Rattle.showing.specs.Rooms.{both}
use Rattle.promise.specs.Bench.{call_each, taken_each, bench_built, compact}
use Rattle.promise.proofs.Computed.{computed}
use Rattle.fewest.specs.Lawful.{those, is_lawful}
use Rattle.fewest.specs.Examples.{of_lengths, Examples}

abbrev all_lawful : ℕ → List (List (List ℕ)) → Bool
all_lawful most [] = true
all_lawful most (b ∷ bs) = is_lawful most b && all_lawful most bs

all-each : (most : ℕ) (bs : List (List (List ℕ))) → all_lawful most bs ≡ true → (k : ℕ) → k < length bs → is_lawful most (get_or bs k []) ≡ true
all-each most [] e k h = absurd (omega arith)
all-each most (b ∷ bs) e zero h = (both (is_lawful most b) (all_lawful most bs) e).0
all-each most (b ∷ bs) e (suc k) h = all-each most bs (both (is_lawful most b) (all_lawful most bs) e).1 k (omega arith)

pub examples : Examples
unfolding computed call_each taken_each bench_built compact those flatten
examples =
    record {
      early = record { whole = refl; each = all-each 26 (map of_lengths ((13 ∷ []) ∷ (13 ∷ []) ∷ (13 ∷ []) ∷ [])) refl };
      early_filled = refl;
      apart = record { whole = refl; each = all-each 12 (map of_lengths ((13 ∷ []) ∷ (13 ∷ []) ∷ [])) refl };
      apart_blocks = refl;
      apart_filled = refl;
      moved = λ w. let e : ◌≡◌ {A = ℕ} 13 25 = ap (λ (xs : List (List ℕ)). length (get_or xs 1 [])) w.whole in absurd (omega arith);
      moved_filled = refl;
    }
