-- Laws of null bits on plain numbers and lists, which the functions' proofs cite.
-- Assumes nothing.
use mathlib.Core.Path.{◌≡◌, refl, sym, ap, ◌∙◌}
use mathlib.Core.List.{List}
use Prim.Native.Nat.{ℕ, zero, suc, ◌+◌, ◌-◌, ◌*◌, ◌/◌, ◌%◌, ◌^◌, ◌≤◌, ◌<◌}
use native.Mathlib.Nat.{mod-lt, mod-one, add_comm, one-mul, mul-le-mul_right, mul-suc, mul-add, div-one, mod-eq_of_lt}
use native.Mathlib.Numerals.{one-add}
use native.Mathlib.Omega.{arith}
use lib.Pow.{pow_pos, pow_mono, mod-pow-add, shr-shr, shl_exact}
use lib.Count.{ones, ones_cat, ones-le}
use lib.Dec.{lit<}
use lib.Bits.{bit_and, bit_or, and_mask, or_shifted_r}
use lib.ListN.{get_or}
use Rattle.words.specs.Words.{Bytes, word_at}
use Rattle.words.specs.WordLaws.{word_lt}
use Rattle.null_bits.specs.Bits.{bit_at, count_valid}
use Rattle.null_bits.proofs.CountLaws.{count_add}

ones_bit : (r : ℕ) → r < 2 → ones r ≡ r
unfolding ones
ones_bit zero h = refl
ones_bit (suc zero) h = refl
ones_bit (suc (suc r)) h = absurd (omega arith)

-- one more digit: the count of the k + 1 low digits of x is that of the k low ones and the digit k
pub ones-more : (x k : ℕ) → ones (x % 2 ^ suc k) ≡ ones (x % 2 ^ k) + x / 2 ^ k % 2
ones-more x k =
    ap (λ (e : ℕ). ones (x % 2 ^ e)) (sym (one-add k))
    ∙ ap ones (mod-pow-add x 1 k)
    ∙ ones_cat k (x / 2 ^ k % 2 ^ 1) (x % 2 ^ k) (mod-lt x (pow_pos k))
    ∙ add_comm (ones (x / 2 ^ k % 2)) (ones (x % 2 ^ k))
    ∙ ap (λ (n : ℕ). ones (x % 2 ^ k) + n) (ones_bit (x / 2 ^ k % 2) (mod-lt (x / 2 ^ k) (pow_pos 1)))

-- rows of one byte: their count is that of the ones in the byte's part
pub count-part : (map : List ℕ) (first k : ℕ) → first % 8 + k ≤ 8 → count_valid map first k ≡ ones (get_or map (first / 8) 0 / 2 ^ (first % 8) % 2 ^ k)
unfolding count_valid bit_at ones
count-part map first zero h = sym (ap ones (mod-one (get_or map (first / 8) 0 / 2 ^ (first % 8))))
count-part map first (suc k) h =
    let b : ℕ = get_or map (first / 8) 0 in
    let byte : (first + k) / 8 ≡ first / 8 = omega arith in
    let at : (first + k) % 8 ≡ first % 8 + k = omega arith in
    rw (byte, at, ← (shr-shr b (first % 8) k), count-part map first k (omega arith), ones-more)

-- 1 << pos, at a byte's place
pub shl_one : (pos : ℕ) → pos < 8 → 1 * 2 ^ pos % 2 ^ 64 ≡ 2 ^ pos
shl_one pos h = shl_exact {a = 1} 1 pos 64 (lit< tt) (omega arith) ∙ one-mul (2 ^ pos)

-- the bits below one that is written are kept by a mask, and the bit is set by an or
pub put-null : (old pos : ℕ) → pos < 8 → bit_and old (1 * 2 ^ pos % 2 ^ 64 - 1) ≡ old % 2 ^ pos
put-null old pos h = rw (shl_one pos h, and_mask old pos)

pub put-valid : (old pos : ℕ) → pos < 8 → bit_or (bit_and old (1 * 2 ^ pos % 2 ^ 64 - 1)) (1 * 2 ^ pos % 2 ^ 64) ≡ old % 2 ^ pos + 1 * 2 ^ pos
put-valid old pos h =
    rw (put-null old pos h, shl_one pos h)
    (ap (bit_or (old % 2 ^ pos)) (sym (one-mul (2 ^ pos))) ∙ or_shifted_r 1 pos (old % 2 ^ pos) (mod-lt old (pow_pos pos)) ∙ add_comm _ _)

-- both fit a byte
pub put-fits : (old pos bit : ℕ) → pos < 8 → bit < 2 → old % 2 ^ pos + bit * 2 ^ pos < 2 ^ 8
put-fits old pos bit h hb =
    let low : old % 2 ^ pos < 2 ^ pos = mod-lt old (pow_pos pos) in
    let top : 2 ^ suc pos ≤ 2 ^ 8 = pow_mono h in
    let one : bit * 2 ^ pos ≤ 1 * 2 ^ pos = mul-le-mul_right (2 ^ pos) (omega arith) in
    omega arith

-- the rows of a whole byte
pub count-byte : (map : List ℕ) (i : ℕ) → get_or map i 0 < 2 ^ 8 → count_valid map (8 * i) 8 ≡ ones (get_or map i 0)
count-byte map i h =
    let byte : 8 * i / 8 ≡ i = omega arith in
    let at : 8 * i % 8 ≡ 0 = omega arith in
    count-part map (8 * i) 8 (omega arith) ∙ rw (byte, at) (ap ones (ap (λ (x : ℕ). x % 2 ^ 8) (div-one (get_or map i 0)) ∙ mod-eq_of_lt h))

-- the rows of n whole bytes
pub count_word : (map : List ℕ) (i n : ℕ) → Bytes map → count_valid map (8 * i) (8 * n) ≡ ones (word_at map i n)
unfolding word_at ones count_valid
count_word map i zero hb = refl
count_word map i (suc n) hb =
    rw (
      mul-suc 8 n,
      count_add map (8 * i) (8 * n) 8,
      ← (mul-add 8 i n),
      count-byte map (i + n) (hb (i + n)),
      count_word map i n hb,
      ones_cat (8 * n)
          (get_or map (i + n) 0) (word_at map i n) (word_lt map i n hb),
    )
    (add_comm (ones (word_at map i n)) (ones (get_or map (i + n) 0)))

-- the mask of k low bits in a u32
pub shl-one-32 : (k : ℕ) → k < 32 → 1 * 2 ^ k % 2 ^ 32 ≡ 2 ^ k
shl-one-32 k h = shl_exact {a = 1} 1 k 32 (lit< tt) (omega arith) ∙ one-mul (2 ^ k)

pub part-is : (x k : ℕ) → k < 32 → bit_and x (1 * 2 ^ k % 2 ^ 32 - 1) ≡ x % 2 ^ k
part-is x k h = rw (shl-one-32 k h, and_mask x k)

pub part-le : (x k : ℕ) → ones (x % 2 ^ k) ≤ k
part-le x k = ones-le k (x % 2 ^ k) (mod-lt x (pow_pos k))

-- one byte more, and one word more
pub count-more-byte : (map : List ℕ) (i k : ℕ) → get_or map (i + k) 0 < 2 ^ 8 → count_valid map (8 * i) (8 * k) + ones (get_or map (i + k) 0)
    ≡ count_valid map (8 * i) (8 * (k + 1))
count-more-byte map i k h =
    rw (mul-add 8 k 1, count_add map (8 * i) (8 * k) 8, ← (mul-add 8 i k), count-byte map (i + k) h)

pub count-more-word : (map : List ℕ) (i k : ℕ) → Bytes map → count_valid map (8 * i) (64 * k) + ones (word_at map (i + 8 * k) 8)
    ≡ count_valid map (8 * i) (64 * (k + 1))
count-more-word map i k hb =
    let at : 8 * i + 64 * k ≡ 8 * (i + 8 * k) = omega arith in
    rw (mul-add 64 k 1, count_add map (8 * i) (64 * k) 64, at, count_word map (i + 8 * k) 8 hb)

-- `count-part` by a byte's place and a place in it; one past the byte asks for no row
pub count_at : (map : List ℕ) (i skip k : ℕ) → skip + k ≤ 8 → skip < 8 → count_valid map (8 * i + skip) k ≡ ones (get_or map i 0 / 2 ^ skip % 2 ^ k)
count_at map i skip k h hs =
    let byte : (8 * i + skip) / 8 ≡ i = omega arith in
    let at : (8 * i + skip) % 8 ≡ skip = omega arith in
    count-part map (8 * i + skip) k (omega arith) ∙ rw (byte, at)

-- a run in three parts, and in four: each part's first row is where the part before it ends
pub count-three : (map : List ℕ) (f₀ f₁ f₂ p q r first rows : ℕ) → f₀ ≡ first → f₁ ≡ first + p → f₂ ≡ first + (p + q) → p + q + r ≡ rows
    → count_valid map f₀ p + count_valid map f₁ q + count_valid map f₂ r ≡ count_valid map first rows
count-three map f₀ f₁ f₂ p q r first rows e₀ e₁ e₂ e =
    rw (e₀, e₁, e₂, ← e, count_add map first (p + q) r, count_add map first p q)

pub count-four : (map : List ℕ) (f₀ f₁ f₂ f₃ p q r s first rows : ℕ) → f₀ ≡ first → f₁ ≡ first + p → f₂ ≡ first + (p + q) → f₃ ≡ first + (p + q + r)
    → p + q + r + s ≡ rows
    → count_valid map f₀ p + count_valid map f₁ q + count_valid map f₂ r + count_valid map f₃ s ≡ count_valid map first rows
count-four map f₀ f₁ f₂ f₃ p q r s first rows e₀ e₁ e₂ e₃ e =
    rw (e₀, e₁, e₂, e₃, ← e, count_add map first (p + q + r) s, count_add map first (p + q) r, count_add map first p q)

-- a run's head, words, bytes and tail are the whole run
pub cut : (head rows : ℕ) → head ≤ rows → head + 64 * ((rows - head) / 64) + 8 * ((rows - head) % 64 / 8) + (rows - head) % 8 ≡ rows
cut head rows h = whole (rows - head) (omega arith)
  where
    whole : (left : ℕ) → head + left ≡ rows → head + 64 * (left / 64) + 8 * (left % 64 / 8) + left % 8 ≡ rows
    whole left e = omega arith
