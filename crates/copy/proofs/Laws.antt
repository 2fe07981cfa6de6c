-- A copy in two parts that overlap. Assumes nothing.
use Prim.Native.Nat.{ℕ, ◌+◌, ◌-◌, ◌≤◌}
use native.Mathlib.Omega.{arith}
use mathlib.Core.Path.{◌≡◌, sym, ap, ◌∙◌}
use mathlib.Core.List.{List, ◌++◌, append_assoc}
use lib.ListN.{length, take, drop, length-drop, take-append-drop}
use Rattle.copy.specs.OverLaws.{tail-back}
use lib.Seq.{drop_at, take_all, take-append-le, take-take, drop-drop, length-take-le}

-- the first m elements, then the tail from o ≤ m on: the two may overlap
pub overlap : (d s t y : List ℕ) (m o : ℕ) → o ≤ m → m ≤ length s → t ≡ take m s ++ drop (length (take m s)) d
    → y ≡ take (length s - o) (drop o s) ++ drop (length (take (length s - o) (drop o s))) (take (length t - o) (drop o t))
    → take o t ++ (y ++ drop (length t - o) (drop o t)) ≡ s ++ drop (length s) d
overlap d s t y m o h k et ey =
    let lm : length (take m s) ≡ m = length-take-le m s k in
    let q : take (length s - o) (drop o s) ≡ drop o s = take_all (length s - o) (drop o s) (simp length-drop (omega arith)) in
    let begun : t ≡ take m s ++ drop m d = rw lm at et in
    let lent : y ≡ drop o s ++ drop (length (drop o s)) (take (length t - o) (drop o t)) = simp q at ey in
    let front : take o t ≡ take o s = rw begun (take-append-le o (take m s) (drop m d) (omega arith) ∙ take-take o m s h) in
    let rest : drop m t ≡ drop m d = rw begun (drop_at (take m s) (drop m d) m lm) in
    let at : m + (length s - m) ≡ length s = omega arith in
    let back : drop (length s) t ≡ drop (length s) d = rw (← at) (sym (drop-drop (length s - m) m t) ∙ ap (drop (length s - m)) rest
    ∙ drop-drop (length s - m) m d) in
    let e : o + length (drop o s) ≡ length s = simp length-drop (omega arith) in
    tail-back o t y (drop o s) lent
    ∙ rw (front, e, back, ← append_assoc (take o s) (drop o s) (drop (length s) d), take-append-drop o s)
