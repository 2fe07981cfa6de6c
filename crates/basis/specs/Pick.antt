-- One of two by a comparison, and the laws by which a proof takes a side. Assumes nothing.
use Rattle.std.specs.Prelude.{ℕ, ◌+◌, ◌-◌, ◌<◌, ◌≤◌, List, take, drop, ◌≡◌, Bool, true, false, ltb, leb}
use Rattle.std.proofs.Math.Nat.{add-sub_cancel_left}
use Rattle.std.proofs.Common.{le-leb, lt-ltb, le-ltb}
use Rattle.std.proofs.lemmas.Bool.{lt-leb}

abbrev pub pick : {A : Type 0} → Bool → A → A → A
pick true a b = a
pick false a b = b

-- a where m ≤ n, else b
unfoldable pub if_le : {A : Type 0} → ℕ → ℕ → A → A → A
if_le m n a b = pick (leb m n) a b

pub le_yes : {A : Type 0} (m n : ℕ) (a b x : A) → m ≤ n → x ≡ a → x ≡ if_le m n a b
unfolding if_le
le_yes m n a b x h e = rw (le-leb m n h) e

pub le-no : {A : Type 0} (m n : ℕ) (a b x : A) → n < m → x ≡ b → x ≡ if_le m n a b
unfolding if_le
le-no m n a b x h e = rw (lt-leb m n h) e

-- a where m < n, else b
unfoldable pub if_lt : {A : Type 0} → ℕ → ℕ → A → A → A
if_lt m n a b = pick (ltb m n) a b

pub lt_yes : {A : Type 0} (m n : ℕ) (a b x : A) → m < n → x ≡ a → x ≡ if_lt m n a b
unfolding if_lt
lt_yes m n a b x h e = rw (lt-ltb m n h) e

pub lt_no : {A : Type 0} (m n : ℕ) (a b x : A) → n ≤ m → x ≡ b → x ≡ if_lt m n a b
unfolding if_lt
lt_no m n a b x h e = rw (le-ltb m n h) e

-- a part from a to a + n, where the definition says the start and the length by other terms
pub part-is : (s : List ℕ) (a n a' n' : ℕ) → a ≡ a' → n ≡ n' → take (a + n - a) (drop a s) ≡ take n' (drop a' s)
part-is s a n a' n' p q = rw (add-sub_cancel_left, p, q)
