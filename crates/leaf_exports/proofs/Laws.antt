-- Laws of the batches: a sum by one more, values that lie in the bytes or don't, a copy by one part more. Assumes nothing.
use Rattle.std.proofs.Common.{◌≡◌, ℕ, ◌+◌, ◌*◌, ◌/◌, ◌%◌, ◌^◌, ◌<◌, ◌≤◌, List, length, sym, refl, ◌∙◌, add-mul, one-mul, mul-zero, add-one, arith}
use Rattle.std.proofs.Math.Nat.{div-mul-le_self, mul-le-mul_right}
use Rattle.basis.specs.Pick.{le_yes, le-no}
use Rattle.copy.specs.Over.{copied_up_to}
use Rattle.std.specs.Prelude.{Bool, true, false}
use Rattle.std.specs.Ordering.{is_lt}
use Rattle.std.proofs.Common.{Less, Equal, Greater}
use mir.Val.{bool_byte}
use Rattle.basis.specs.Pick.{pick}
use Rattle.order.specs.Order.{Order, ordering}
use Rattle.leaf_exports.specs.Batches.{summed, if_in, one_if_less}

-- a truth as a number
pub one-if : (t : Bool) → bool_byte t ≡ pick t 1 0
one-if true = refl
one-if false = refl

pub one-less : (o : Order) → bool_byte (is_lt o) ≡ one_if_less (ordering o)
one-less Less = refl
one-less Equal = refl
one-less Greater = refl

pub summed-more : (f : ℕ → ℕ) (n x s r : ℕ) → s ≡ summed f n → x ≡ f n → r ≡ (s + x) % 2 ^ 64 → r ≡ summed f (n + 1)
unfolding summed
summed-more f n x s r es ex er = rw (er, es, ex, add-one n)

module _ (l : List ℕ) (s m e x : ℕ) where
  pub first_out : m < s → 0 ≡ if_in l s m e x
  unfolding if_in
  first_out h = le-no s m _ _ 0 h refl

  pub second-out : s ≤ m → e < m → 0 ≡ if_in l s m e x
  unfolding if_in
  second-out h k = le_yes s m _ _ 0 h (le-no m e _ _ 0 k refl)

  pub end-out : s ≤ m → m ≤ e → length l < e → 0 ≡ if_in l s m e x
  unfolding if_in
  end-out h k g = le_yes s m _ _ 0 h (le_yes m e _ _ 0 k (le-no e (length l) _ _ 0 g refl))

  pub both-in : (y : ℕ) → s ≤ m → m ≤ e → e ≤ length l → y ≡ x → y ≡ if_in l s m e x
  unfolding if_in
  both-in y h k g q = le_yes s m _ _ y h (le_yes m e _ _ y k (le_yes e (length l) _ _ y g q))

-- a whole part of n ends within m, and the next begins where it ends
pub part-in : (n m k : ℕ) → k < m / n → k * n + n ≤ m
part-in n m k h =
    let next : (k + 1) * n ≡ k * n + n = add-mul k 1 n ∙ rw (one-mul n) in
    omega (arith, next, mul-le-mul_right {m = k + 1} {n = m / n} n (omega arith), div-mul-le_self m n)

pub part-next : (n k : ℕ) → k * n + n ≡ (k + 1) * n
part-next n k = sym (add-mul k 1 n ∙ rw (one-mul n))

pub no-parts : (d s : List ℕ) (n m : ℕ) → n ≡ 0 → copied_up_to d s 0 ≡ copied_up_to d s (m / n * n)
no-parts d s n m e = rw (e, mul-zero (m / 0))
