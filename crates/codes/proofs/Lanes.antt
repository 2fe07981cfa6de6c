-- Eight bytes in one number, worked on at once: each lane is worked on as if it were alone. Assumes nothing.
use mathlib.Core.Path.{◌≡◌, refl, sym, ap, ◌∙◌}
use mathlib.Core.Bool.{Bool, true, false}
use mathlib.Core.List.{List}
use Prim.Native.Nat.{ℕ, zero, suc, ◌+◌, ◌*◌, ◌/◌, ◌%◌, ◌^◌, ◌<◌}
use native.Mathlib.Nat.{mul-suc, add_comm, add-mul}
use native.Mathlib.Omega.{arith}
use borrow.Author.Count.{below_more}
use borrow.Author.Tests.{eqb-true, eq-eqb}
use lib.Arith.{digits_lt}
use lib.Dec.{eqb, lit<}
use lib.ListN.{get_or}
use lib.Pow.{pow-add, high, low}
use Rattle.words.specs.Words.{word_at}
use Rattle.codes.specs.Windows.{every}
use Rattle.codes.proofs.Laws.{both}

-- n lanes of eight bits, the first one lowest
unfoldable pub lanes : (ℕ → ℕ) → ℕ → ℕ
lanes f zero = 0
lanes f (suc n) = f n * 2 ^ (8 * n) + lanes f n

abbrev pub Small : (ℕ → ℕ) → ℕ → Type 0
Small f n = (i : ℕ) → i < n → f i < 2 ^ 8

fewer : (f : ℕ → ℕ) (n : ℕ) → Small f (suc n) → Small f n
fewer f n h i l = h i (omega arith)

pub word_lanes : (s : List ℕ) (i n : ℕ) → word_at s i n ≡ lanes (λ j. get_or s (i + j) 0) n
unfolding word_at lanes
word_lanes s i zero = refl
word_lanes s i (suc n) = ap (λ (w : ℕ). get_or s (i + n) 0 * 2 ^ (8 * n) + w) (word_lanes s i n)

pub lanes-lt : (f : ℕ → ℕ) (n : ℕ) → Small f n → lanes f n < 2 ^ (8 * n)
unfolding lanes
lanes-lt f zero h = lit< tt
lanes-lt f (suc n) h =
    rw (mul-suc 8 n, add_comm (8 * n) 8, pow-add 2 8 (8 * n))
    (digits_lt {q = f n} {m = 2 ^ 8} {c = 2 ^ (8 * n)} (h n (omega arith)) (lanes-lt f n (fewer f n h)))

-- a bitwise operation goes lane by lane
module _ (op : ℕ → ℕ → ℕ) (none : op 0 0 ≡ 0)
    (block : (k a b r s : ℕ) → r < 2 ^ k → s < 2 ^ k → op (a * 2 ^ k + r) (b * 2 ^ k + s) ≡ op a b * 2 ^ k + op r s) where
  pub by-lanes : (f g : ℕ → ℕ) (n : ℕ) → Small f n → Small g n → op (lanes f n) (lanes g n) ≡ lanes (λ i. op (f i) (g i)) n
  unfolding lanes
  by-lanes f g zero h k = none
  by-lanes f g (suc n) h k =
      block (8 * n) (f n) (g n) (lanes f n) (lanes g n) (lanes-lt f n (fewer f n h)) (lanes-lt g n (fewer g n k))
      ∙ ap (λ (w : ℕ). op (f n) (g n) * 2 ^ (8 * n) + w) (by-lanes f g n (fewer f n h) (fewer g n k))

-- so does a sum
pub sum-lanes : (f g : ℕ → ℕ) (n : ℕ) → lanes f n + lanes g n ≡ lanes (λ i. f i + g i) n
unfolding lanes
sum-lanes f g zero = refl
sum-lanes f g (suc n) =
    let d = add-mul (f n) (g n) (2 ^ (8 * n)) in
    let r = sum-lanes f g n in
    omega arith

-- lanes that make one number are the same
pub lanes-apart : (f g : ℕ → ℕ) (n : ℕ) → Small f n → Small g n → lanes f n ≡ lanes g n → (i : ℕ) → i < n → f i ≡ g i
unfolding lanes
lanes-apart f g zero h k e i l = absurd (omega arith)
lanes-apart f g (suc n) h k e i l = below_more (λ (j : ℕ). f j ≡ g j) n (lanes-apart f g n (fewer f n h) (fewer g n k) rest) top i (omega arith)
  where
    lf : lanes f n < 2 ^ (8 * n)
    lf = lanes-lt f n (fewer f n h)

    lg : lanes g n < 2 ^ (8 * n)
    lg = lanes-lt g n (fewer g n k)

    top : f n ≡ g n
    top = sym (high (f n) (8 * n) lf) ∙ (ap (λ (w : ℕ). w / 2 ^ (8 * n)) e ∙ high (g n) (8 * n) lg)

    rest : lanes f n ≡ lanes g n
    rest = sym (low (f n) (8 * n) lf) ∙ (ap (λ (w : ℕ). w % 2 ^ (8 * n)) e ∙ low (g n) (8 * n) lg)

pub lanes-same : (f g : ℕ → ℕ) (n : ℕ) → ((i : ℕ) → i < n → f i ≡ g i) → lanes f n ≡ lanes g n
unfolding lanes
lanes-same f g zero h = refl
lanes-same f g (suc n) h = rw (h n (omega arith), lanes-same f g n (λ i l. h i (omega arith)))

-- ---- a flag a lane

abbrev pub flag : Bool → ℕ
flag true = 128
flag false = 0

pub every-at : (p : ℕ → Bool) (n : ℕ) → every p n ≡ true → (i : ℕ) → i < n → p i ≡ true
unfolding every
every-at p zero h i l = absurd (omega arith)
every-at p (suc n) h i l = let f = both (p n) (every p n) h in below_more (λ (j : ℕ). p j ≡ true) n (every-at p n f.1) f.0 i (omega arith)

pub all-every : (p : ℕ → Bool) (n : ℕ) → ((i : ℕ) → i < n → p i ≡ true) → every p n ≡ true
unfolding every
all-every p zero h = refl
all-every p (suc n) h = rw (h n (omega arith)) (all-every p n (λ i l. h i (omega arith)))

pub same_test : (s t : Bool) → (s ≡ true → t ≡ true) → (t ≡ true → s ≡ true) → s ≡ t
same_test true t f g = sym (f refl)
same_test false true f g = g refl
same_test false false f g = refl

flag_small : (t : Bool) → flag t < 2 ^ 8
flag_small true = lit< tt
flag_small false = lit< tt

flag-set : (t : Bool) → flag t ≡ 128 → t ≡ true
flag-set true e = refl
flag-set false e = absurd (omega arith)

-- all flags are set where the number is that of set flags
pub flags-every : (p : ℕ → Bool) (n : ℕ) → eqb (lanes (λ i. flag (p i)) n) (lanes (λ i. 128) n) ≡ every p n
flags-every p n =
    same_test (eqb (lanes (λ i. flag (p i)) n) (lanes (λ i. 128) n)) (every p n)
    (λ e. all-every p n (λ i l. flag-set (p i)
    (lanes-apart (λ j. flag (p j)) (λ j. 128) n (λ j m. flag_small (p j)) (λ j m. lit< tt) (eqb-true _ _ e) i l)))
    (λ h. eq-eqb _ _ (lanes-same (λ j. flag (p j)) (λ j. 128) n (λ i l. ap flag (every-at p n h i l))))
