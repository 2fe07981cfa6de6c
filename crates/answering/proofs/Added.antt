-- Good lines are a run of calls, none of which is refused. Assumes nothing.
use Rattle.bounds.specs.Refusals.{accepted}
use mathlib.Core.Path.{◌≡◌, refl, sym, ap, subst, transport}
use mathlib.Core.Bool.{Bool, true, false, true≢false}
use mathlib.Core.List.{List, [], ◌∷◌, ◌++◌, map, append-nil, append_assoc}
use Prim.Native.Nat.{ℕ, suc, ◌+◌, ◌≤◌, ◌<◌}
use native.Mathlib.Nat.{add-zero}
use native.Mathlib.Omega.{arith}
use lib.ListN.{length, take, drop, length-append}
use Rattle.basis.specs.Pick.{pick}
use Rattle.order.specs.Order.{same}
use Rattle.order.proofs.OrderLaws.{same_true}
use Rattle.views.specs.View.{is_short}
use Rattle.builder.specs.State.{Builder}
use Rattle.promise.specs.Calls.{why, put, Ran, none, more, Cell}
use Rattle.promise.proofs.Steps.{Inv}
use Rattle.promise.proofs.Kept.{inv-put}
use Rattle.shelf.specs.declared.Line.{Line}
use Rattle.shelf.specs.declared.Line.TheVariants.{Code, Null, Bad}
use Rattle.shelf.specs.Lines.{says, value_of, is_bad_line, first_bad_line, code_mark, null_mark}
use Rattle.shelf.specs.Adding.{added_by, added, added_all}
use Rattle.whole.specs.Answer.{row_said, block_bytes_in}
use Rattle.whole.specs.Sizes.{value_bytes}
use Rattle.answering.specs.Rows.{call_for, line_cell, call_of, cell_of_line}
use Rattle.answering.proofs.Numbers.{Numbers, long_of, why-null, why-value, numbers-null, numbers-value}

-- nothing follows `null=`
pub null-empty : (l : List ℕ) → says l ≡ Null → value_of l ≡ []
unfolding says
null-empty l e = go (same (take 5 l) code_mark) (same l null_mark) refl e
  where
    go : (t u : Bool) → same l null_mark ≡ u → pick t Code (pick u Null Bad) ≡ Null → drop 5 l ≡ []
    go true u h e = let z : ◌≡◌ {A = ℕ} 0 1 = cc in absurd (omega arith)
    go false true h e = ap (drop 5) (same_true l null_mark h)
    go false false h e = let z : ◌≡◌ {A = ℕ} 0 1 = cc in absurd (omega arith)

record Step (m n : ℕ) (t : Line) (x : List ℕ) (b : Builder) (xs : List Cell) : Type 0 where
  accepted : why (call_for t x) b ≡ accepted
  leaves : added_by t x b ≡ put (call_for t x) b
  inv : Inv m (put (call_for t x) b) (xs ++ line_cell t x ∷ [])
  numbers : Numbers (n + long_of x) (put (call_for t x) b)

module _ {m : ℕ} (n : ℕ) (b : Builder) (xs : List Cell) (i : Inv m b xs) (a : Numbers n b) (h : length xs < m) (x : List ℕ) (r : n + length x ≤ 16379) where
  step : (t : Line) → is_bad_line t ≡ false → (t ≡ Null → x ≡ []) → Step m n t x b xs
  step Code g z =
      let w = why-value b xs i h n a x r in
      record { accepted = w; leaves = rw w; inv = inv-put (call_for Code x) b xs i w; numbers = numbers-value b n x a r }
  step Null g z =
      let w = why-null b xs i h in
      record { accepted = w; leaves = rw w; inv = inv-put (call_for Null x) b xs i w; numbers = rw (z refl, add-zero n) (numbers-null b n a) }
  step Bad g z = absurd (true≢false g)

long-most : (x : List ℕ) → long_of x ≤ length x
long-most x = go (is_short (length x))
  where
    go : (t : Bool) → pick t 0 (length x) ≤ length x
    go true = omega arith
    go false = omega arith

-- all lines, from any builder on whose numbers leave room for them
pub record Ended (m n : ℕ) (ls : List (List ℕ)) (b : Builder) (xs : List Cell) : Type 0 where
  pub ran : Ran (map call_of ls) b (added_all ls b)
  pub inv : Inv m (added_all ls b) (xs ++ map cell_of_line ls)
  pub numbers : Numbers n (added_all ls b)

pub all-added : {m : ℕ} (ls : List (List ℕ)) (k n : ℕ) (b : Builder) (xs : List Cell) → first_bad_line k ls ≡ 0 → Inv m b xs → Numbers n b
    → length xs + length ls ≤ m
    → n + value_bytes ls ≤ 16379 → Ended m (n + block_bytes_in (map row_said ls)) ls b xs
unfolding added_all added block_bytes_in value_bytes first_bad_line
all-added {m} [] k n b xs g i a h r = record { ran = none; inv = rw (append-nil xs) i; numbers = rw (add-zero n) a }
all-added {m} (l ∷ ls) k n b xs g i a h r = go (is_bad_line (says l)) refl g (λ b n xs. all-added ls (suc k) n b xs)
  where
    go : (t : Bool) → is_bad_line (says l) ≡ t → pick t (suc k) (first_bad_line (suc k) ls) ≡ 0
        → ((b : Builder) (n : ℕ) (xs : List Cell) → first_bad_line (suc k) ls ≡ 0 → Inv m b xs → Numbers n b → length xs + length ls ≤ m
        → n + value_bytes ls ≤ 16379 → Ended m (n + block_bytes_in (map row_said ls)) ls b xs)
        → Ended m (n + block_bytes_in (map row_said (l ∷ ls))) (l ∷ ls) b xs
    go true e g rest = absurd (omega arith)
    go false e g rest =
        let s : Step m n (says l) (value_of l) b xs = step n b xs i a (omega arith) (value_of l) (omega arith) (says l) e (null-empty l) in
        let c : Builder = put (call_of l) b in
        let q = rest c (n + long_of (value_of l)) (xs ++ cell_of_line l ∷ []) g s.inv s.numbers (omega (arith, length-append xs (cell_of_line l ∷ [])))
        (omega (arith, long-most (value_of l))) in
        let d : c ≡ added l b = sym s.leaves in
        let k : n + long_of (value_of l) + block_bytes_in (map row_said ls) ≡ n + (long_of (value_of l) + block_bytes_in (map row_said ls)) = omega arith in
        let ys : (xs ++ cell_of_line l ∷ []) ++ map cell_of_line ls ≡ xs ++ map cell_of_line (l ∷ ls) = append_assoc xs (cell_of_line l ∷ []) (map cell_of_line ls) in
        record {
          ran = more s.accepted (subst (λ (e : Builder). Ran (map call_of ls) c (added_all ls e)) d q.ran);
          inv = transport (λ j. Inv m (added_all ls (d j)) (ys j)) q.inv;
          numbers = transport (λ j. Numbers (k j) (added_all ls (d j))) q.numbers;
        }
