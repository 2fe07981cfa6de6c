-- Eight bits at a time: a byte's bits written at any place of a map, and read from one. Assumes nothing.
use mathlib.Core.Path.{◌≡◌, refl, sym, ap, ◌∙◌}
use mathlib.Core.Bool.{Bool, true, false}
use mathlib.Core.List.{List}
use Prim.Native.Nat.{ℕ, zero, suc, ◌+◌, ◌-◌, ◌*◌, ◌/◌, ◌%◌, ◌^◌, ◌≤◌, ◌<◌}
use native.Mathlib.Nat.{mod-lt, add_comm, mul_comm, div-one, zero-div, mod-eq_of_lt}
use native.Mathlib.Numerals.{one-add}
use native.Mathlib.Omega.{arith}
use borrow.Author.Tests.{eqb-true, eqb-false, ltb-true, ltb-false}
use lib.Arith.{digits_lt}
use lib.Dec.{eqb, ltb}
use lib.ListN.{length, get_or, set, length-set}
use lib.Bits.{bit_and}
use lib.Pow.{pow_pos, pow_mono, shl_exact, pow-add, shr-shr, mod-pow-add, field, mod-mod-pow, shr_mod}
use lib.Seq.{paste, paste-zero, paste-suc, get_or-set_same, set-set}
use lib.ListN.{replicate}
use Rattle.std.proofs.lemmas.List.{get_or-replicate, length-replicate}
use Rattle.null_bits.specs.Bits.{bit_at, is_valid, put_bit, put_in, bit_number}
use Rattle.null_bits.specs.Runs.{put_bits, put_bytes, put_run, digit}
use Rattle.null_bits.proofs.RunLaws.{length-bits, bits-add, bits-same}
use Rattle.null_bits.proofs.Laws.{put-null}

digit-bit : (x k : ℕ) → bit_number (digit x k) ≡ x / 2 ^ k % 2
unfolding digit
digit-bit x k = by (eqb (x / 2 ^ k % 2) 1) refl
  where
    by : (b : Bool) → eqb (x / 2 ^ k % 2) 1 ≡ b → bit_number b ≡ x / 2 ^ k % 2
    by true e = sym (eqb-true (x / 2 ^ k % 2) 1 e)
    by false e = let n = eqb-false (x / 2 ^ k % 2) 1 e in omega arith

-- the byte after n bits from bit a on
abbrev filled : ℕ → ℕ → ℕ → ℕ → ℕ
filled old a x n = old % 2 ^ a + x % 2 ^ n * 2 ^ a

filled-lt : (old a x n : ℕ) → filled old a x n < 2 ^ (a + n)
filled-lt old a x n =
    rw (pow-add 2 a n, mul_comm (2 ^ a) (2 ^ n), add_comm (old % 2 ^ a) (x % 2 ^ n * 2 ^ a))
    (digits_lt {q = x % 2 ^ n} {m = 2 ^ n} {r = old % 2 ^ a} {c = 2 ^ a} (mod-lt x (pow_pos n)) (mod-lt old (pow_pos a)))

-- one bit more
filled_more : (old a x n : ℕ) → put_in (filled old a x n) (a + n) (digit x n) ≡ filled old a x (suc n)
filled_more old a x n =
    let more : x % 2 ^ suc n ≡ x / 2 ^ n % 2 * 2 ^ n + x % 2 ^ n = ap (λ (e : ℕ). x % 2 ^ e) (sym (one-add n)) ∙ mod-pow-add x 1 n in
    rw (digit-bit x n, mod-eq_of_lt (filled-lt old a x n), more, pow-add 2 a n) (shuffle (old % 2 ^ a) (x % 2 ^ n) (x / 2 ^ n % 2) (2 ^ a) (2 ^ n))
  where
    shuffle : (o r d p q : ℕ) → o + r * p + d * (p * q) ≡ o + (d * q + r) * p
    shuffle o r d p q = omega arith

put-more : (map : List ℕ) (i a x n : ℕ) → a + suc n ≤ 8 → i < length map
    → put_bit (set map i (filled (get_or map i 0) a x n)) (8 * i + a + n) (digit x n) ≡ set map i (filled (get_or map i 0) a x (suc n))
unfolding put_bit
put-more map i a x n h g =
    let v : ℕ = filled (get_or map i 0) a x n in
    let byte : (8 * i + a + n) / 8 ≡ i = omega arith in
    let at : (8 * i + a + n) % 8 ≡ a + n = omega arith in
    rw (byte, at, get_or-set_same map i v 0 g, filled_more (get_or map i 0) a x n) (set-set map i v (filled (get_or map i 0) a x (suc n)))

put_first : (map : List ℕ) (i a x : ℕ) → a < 8 → put_bit map (8 * i + a + 0) (digit x 0) ≡ set map i (filled (get_or map i 0) a x 1)
unfolding put_bit
put_first map i a x h =
    let byte : (8 * i + a + 0) / 8 ≡ i = omega arith in
    let at : (8 * i + a + 0) % 8 ≡ a = omega arith in
    rw (byte, at, digit-bit x 0, div-one x)

-- n bits in one byte
in-byte : (map : List ℕ) (i a x n : ℕ) → a + suc n ≤ 8 → i < length map → put_bits map (8 * i + a) (digit x) (suc n)
    ≡ set map i (filled (get_or map i 0) a x (suc n))
unfolding put_bits
in-byte map i a x zero h g = put_first map i a x (omega arith)
in-byte map i a x (suc n) h g =
    ap (λ (l : List ℕ). put_bit l (8 * i + a + suc n) (digit x (suc n))) (in-byte map i a x n (omega arith) g) ∙ put-more map i a x (suc n) h g

-- eight bits that are one byte
pub byte-whole : (map : List ℕ) (row x : ℕ) → x < 2 ^ 8 → row % 8 ≡ 0 → row / 8 < length map → set map (row / 8) x ≡ put_bits map row (digit x) 8
byte-whole map row x hx hr h =
    let e : 8 * (row / 8) + 0 ≡ row = omega arith in
    let v : filled (get_or map (row / 8) 0) 0 x 8 ≡ x = omega arith in
    sym (rw (e, v) at (in-byte map (row / 8) 0 x 7 (omega arith) h))

digit_shift : (x p k : ℕ) → digit x (p + k) ≡ digit (x / 2 ^ p) k
unfolding digit
digit_shift x p k = rw (shr-shr x p k)

-- eight bits in two bytes, the first from bit a on
two_bytes : (map : List ℕ) (i b m x : ℕ) → suc b + suc m ≡ 8 → x < 2 ^ 8 → i + 1 < length map
    → set (set map i (filled (get_or map i 0) (suc b) x (suc m))) (i + 1) (x / 2 ^ suc m) ≡ put_bits map (8 * i + suc b) (digit x) 8
two_bytes map i b m x e hx h =
    let r : ℕ = 8 * i + suc b in
    let y : ℕ = x / 2 ^ suc m in
    let front : List ℕ = set map i (filled (get_or map i 0) (suc b) x (suc m)) in
    let first : put_bits map r (digit x) (suc m) ≡ front = in-byte map i (suc b) x m (omega arith) (omega arith) in
    let next : r + suc m ≡ 8 * (i + 1) + 0 = omega arith in
    let all : suc m + suc b ≡ 8 = omega arith in
    let fits : x < 2 ^ (suc b + suc m) = rw e hx in
    let rest : filled (get_or front (i + 1) 0) 0 y (suc b) ≡ y = top (get_or front (i + 1) 0) (y % 2 ^ suc b) y (shr_mod (suc b) (suc m) fits) in
    let second : put_bits front (8 * (i + 1) + 0) (digit y) (suc b) ≡ set front (i + 1) y =
    rw rest at (in-byte front (i + 1) 0 y b (omega arith) (rw (length-set map i (filled (get_or map i 0) (suc b) x (suc m))) h)) in
    let moved : put_bits front (8 * (i + 1) + 0) (λ k. digit x (suc m + k)) (suc b) ≡ put_bits front (8 * (i + 1) + 0) (digit y) (suc b) =
    bits-same front (8 * (i + 1) + 0) (λ k. digit x (suc m + k)) (digit y) (suc b) (λ k l. digit_shift x (suc m) k) in
    sym (rw (all, first, next) at (bits-add map r (digit x) (suc m) (suc b)) ∙ moved ∙ second)
  where
    top : (old z y : ℕ) → z ≡ y → old % 1 + z * 1 ≡ y
    top old z y q = omega arith

pub byte_split : (map : List ℕ) (row x p : ℕ) → x < 2 ^ 8 → row % 8 + p ≡ 8 → p < 8 → row / 8 + 1 < length map
    → set (set map (row / 8) (get_or map (row / 8) 0 % 2 ^ (row % 8) + x % 2 ^ p * 2 ^ (row % 8))) (row / 8 + 1) (x / 2 ^ p) ≡ put_bits map row (digit x) 8
byte_split map row x p hx hp hq h =
    let ea : suc (row % 8 - 1) ≡ row % 8 = omega arith in
    let em : suc (p - 1) ≡ p = omega arith in
    let er : 8 * (row / 8) + row % 8 ≡ row = omega arith in
    rw (ea, em, er) at (two_bytes map (row / 8) (row % 8 - 1) (p - 1) x (omega arith) hx h)

-- a bit below eight is the low byte's
low_bit : (y j : ℕ) → j < 8 → y % 2 ^ 8 / 2 ^ j % 2 ≡ y / 2 ^ j % 2
low_bit y j h =
    let a : (7 - j) + 1 + j ≡ 8 = omega arith in
    let cut : y % 2 ^ 8 / 2 ^ j ≡ y / 2 ^ j % 2 ^ ((7 - j) + 1) = rw a at (field y ((7 - j) + 1) j) in
    rw cut (mod-mod-pow (y / 2 ^ j) (7 - j) 1)

-- bit t of two bytes is bit t of the first or bit t - 8 of the second
low_of : (l h t : ℕ) → l < 256 → t < 8 → (l + 256 * h) / 2 ^ t % 2 ≡ l / 2 ^ t % 2
low_of l h t hl ht =
    let e : (l + 256 * h) % 2 ^ 8 ≡ l = omega arith in
    sym (rw e at (low_bit (l + 256 * h) t ht))

high-of : (l h u : ℕ) → l < 256 → (l + 256 * h) / 2 ^ (8 + u) % 2 ≡ h / 2 ^ u % 2
high-of l h u hl =
    let e : (l + 256 * h) / 2 ^ 8 ≡ h = omega arith in
    rw (← shr-shr (l + 256 * h) 8 u, e)

-- eight bits that are one byte, and eight in two bytes
pub read_whole : (map : List ℕ) (row j : ℕ) → row % 8 ≡ 0 → j < 8 → digit (get_or map (row / 8) 0) j ≡ is_valid map (row + j)
unfolding digit is_valid bit_at
read_whole map row j hr h =
    let byte : (row + j) / 8 ≡ row / 8 = omega arith in
    let at : (row + j) % 8 ≡ j = omega arith in
    rw (byte, at)

pub read-split : (map : List ℕ) (row j : ℕ) → get_or map (row / 8) 0 < 256 → j < 8
    → digit ((get_or map (row / 8) 0 + 256 * get_or map (row / 8 + 1) 0) / 2 ^ (row % 8) % 256) j ≡ is_valid map (row + j)
unfolding digit is_valid bit_at
read-split map row j hl h =
    let e : both / 2 ^ (row % 8) / 2 ^ j % 2 ≡ get_or map ((row + j) / 8) 0 / 2 ^ ((row + j) % 8) % 2 = rw (shr-shr both (row % 8) j)
    (by (ltb (row % 8 + j) 8) refl) in
    ap (λ (n : ℕ). eqb n 1) (low_bit (both / 2 ^ (row % 8)) j h ∙ e)
  where
    both : ℕ
    both = get_or map (row / 8) 0 + 256 * get_or map (row / 8 + 1) 0

    by : (b : Bool) → ltb (row % 8 + j) 8 ≡ b → both / 2 ^ (row % 8 + j) % 2 ≡ get_or map ((row + j) / 8) 0 / 2 ^ ((row + j) % 8) % 2
    by true e =
        let s = ltb-true (row % 8 + j) 8 e in
        let byte : (row + j) / 8 ≡ row / 8 = omega arith in
        let at : (row + j) % 8 ≡ row % 8 + j = omega arith in
        rw (byte, at) (low_of (get_or map (row / 8) 0) (get_or map (row / 8 + 1) 0) (row % 8 + j) hl s)
    by false e =
        let s = ltb-false (row % 8 + j) 8 e in
        let byte : (row + j) / 8 ≡ row / 8 + 1 = omega arith in
        let at : row % 8 + j ≡ 8 + (row + j) % 8 = omega arith in
        rw (byte, at) (high-of (get_or map (row / 8) 0) (get_or map (row / 8 + 1) 0) ((row + j) % 8) hl)

-- one bit eight times
pub all_valid : (j : ℕ) → j < 8 → digit 255 j ≡ true
unfolding digit
all_valid zero h = refl
all_valid (suc zero) h = refl
all_valid (suc (suc zero)) h = refl
all_valid (suc (suc (suc zero))) h = refl
all_valid (suc (suc (suc (suc zero)))) h = refl
all_valid (suc (suc (suc (suc (suc zero))))) h = refl
all_valid (suc (suc (suc (suc (suc (suc zero)))))) h = refl
all_valid (suc (suc (suc (suc (suc (suc (suc zero))))))) h = refl
all_valid (suc (suc (suc (suc (suc (suc (suc (suc j)))))))) h = absurd (omega arith)

pub all-null : (j : ℕ) → digit 0 j ≡ false
unfolding digit
all-null j = rw (zero-div (2 ^ j))

-- a run's next eight bits, and what is left of it
pub next-byte : (m map out : List ℕ) (first k x : ℕ) (bits : ℕ → Bool) → map ≡ put_bits m first bits k → out ≡ put_bits map (first + k) (digit x) 8
    → ((j : ℕ) → j < 8 → digit x j ≡ bits (k + j)) → out ≡ put_bits m first bits (k + 8)
next-byte m map out first k x bits em eo same =
    eo ∙ bits-same map (first + k) (digit x) (λ j. bits (k + j)) 8 same ∙ rw em (sym (bits-add m first bits k 8))

pub run-rest : (m map out : List ℕ) (first k n : ℕ) (bits more : ℕ → Bool) → k ≤ n → map ≡ put_bits m first bits k → out ≡ put_bits map (first + k) more (n - k)
    → ((j : ℕ) → more j ≡ bits (k + j)) → out ≡ put_bits m first bits n
run-rest m map out first k n bits more h em eo same =
    let e : k + (n - k) ≡ n = omega arith in
    eo ∙ bits-same map (first + k) more (λ j. bits (k + j)) (n - k) (λ j l. same j) ∙ rw em (sym (bits-add m first bits k (n - k))
    ∙ ap (put_bits m first bits) e)

-- a byte's bits as the code joins them, and that they fit a byte
pub joined : (old x pos p : ℕ) → pos + p ≤ 8 → pos < 8 → p < 8
    → bit_and old (1 * 2 ^ pos % 2 ^ 64 - 1) + bit_and x (1 * 2 ^ p % 2 ^ 64 - 1) * 2 ^ pos % 2 ^ 64 ≡ old % 2 ^ pos + x % 2 ^ p * 2 ^ pos
joined old x pos p e h k = rw (put-null old pos h, put-null x p k, shl_exact {a = x % 2 ^ p} p pos 64 (mod-lt x (pow_pos p)) (omega arith))

pub joined-lt : (old x pos p : ℕ) → pos + p ≤ 8 → old % 2 ^ pos + x % 2 ^ p * 2 ^ pos < 2 ^ 8
joined-lt old x pos p e =
    let a = filled-lt old pos x p in
    let b : 2 ^ (pos + p) ≤ 2 ^ 8 = pow_mono e in
    omega arith

-- ---- a run of one bit

-- n bits in one byte, by row
pub part_in : (map : List ℕ) (row x n : ℕ) → (n ≡ 0 → ⊥) → row % 8 + n ≤ 8 → row / 8 < length map
    → set map (row / 8) (get_or map (row / 8) 0 % 2 ^ (row % 8) + x % 2 ^ n * 2 ^ (row % 8)) ≡ put_bits map row (digit x) n
part_in map row x n ne h l =
    let en : suc (n - 1) ≡ n = omega (arith, ne) in
    let er : 8 * (row / 8) + row % 8 ≡ row = omega arith in
    sym (rw (en, er) at (in-byte map (row / 8) (row % 8) x (n - 1) (omega (arith, ne)) l))

pub length-bytes : (map : List ℕ) (i x n : ℕ) → length (put_bytes map i x n) ≡ length map
unfolding put_bytes
length-bytes map i x zero = refl
length-bytes map i x (suc n) = length-set (put_bytes map i x n) (i + n) x ∙ length-bytes map i x n

-- bytes filled in a part
pub bytes_filled : (map : List ℕ) (i x n : ℕ) → i + n ≤ length map → paste map i (replicate n x) n ≡ put_bytes map i x n
unfolding put_bytes
bytes_filled map i x n h = upto n (omega arith)
  where
    upto : (k : ℕ) → k ≤ n → paste map i (replicate n x) k ≡ put_bytes map i x k
    upto zero g = sym (paste-zero map i (replicate n x))
    upto (suc k) g =
        let more : set (paste map i (replicate n x) k) (i + k) (get_or (replicate n x) k 0) ≡ paste map i (replicate n x) (suc k) =
        paste-suc map i (replicate n x) k 0 (omega arith) (rw (length-replicate n x) g) in
        sym more ∙ rw (get_or-replicate n k x 0 g, upto k (omega arith))

module _ (x : ℕ) (v : Bool) (small : x < 2 ^ 8) (same : (j : ℕ) → j < 8 → digit x j ≡ v) where
  pub part-run : (map out : List ℕ) (row n : ℕ) → n < 8 → out ≡ put_bits map row (digit x) n → out ≡ put_run map row n v
  part-run map out row n h e = e ∙ bits-same map row (digit x) (λ k. v) n (λ k l. same k (omega arith))

  bytes_run : (map : List ℕ) (i n : ℕ) → i + n ≤ length map → put_bytes map i x n ≡ put_run map (8 * i) (8 * n) v
  unfolding put_bytes put_bits
  bytes_run map i zero h = refl
  bytes_run map i (suc n) h =
      let byte : (8 * i + 8 * n) / 8 ≡ i + n = omega arith in
      let l : (8 * i + 8 * n) / 8 < length (put_bytes map i x n) = rw (length-bytes map i x n) (omega arith) in
      let one : set (put_bytes map i x n) (i + n) x ≡ put_bits (put_bytes map i x n) (8 * i + 8 * n) (digit x) 8 =
      rw byte at (byte-whole (put_bytes map i x n) (8 * i + 8 * n) x small (omega arith) l) in
      let all : 8 * n + 8 ≡ 8 * suc n = omega arith in
      rw (← all) (next-byte map (put_bytes map i x n) _ (8 * i) (8 * n) x (λ j. v) (bytes_run map i n (omega arith)) one same)

  -- up to the next whole byte, whole bytes, and the rest
  pub run_of : (m m1 m2 out : List ℕ) (first gap rows : ℕ) → gap < 8 → gap ≤ rows → (first + gap) % 8 ≡ 0 → first + rows ≤ 8 * length m
      → m1 ≡ put_bits m first (digit x) gap → m2 ≡ put_bytes m1 ((first + gap) / 8) x ((rows - gap) / 8)
      → out ≡ put_bits m2 (first + gap + (rows - gap) / 8 * 8) (digit x) ((rows - gap) % 8) → out ≡ put_run m first rows v
  run_of m m1 m2 out first gap rows hg hr hz h e1 e2 eo =
      let w : ℕ = (rows - gap) / 8 in
      let t : ℕ = (rows - gap) % 8 in
      let p1 = part-run m m1 first gap hg e1 in
      let l1 : length m1 ≡ length m = ap length p1 ∙ length-bits m first (λ k. v) gap in
      let at : 8 * ((first + gap) / 8) ≡ first + gap = omega arith in
      let p2 : m2 ≡ put_run m1 (first + gap) (8 * w) v = rw at at (e2 ∙ bytes_run m1 ((first + gap) / 8) w (omega arith)) in
      let q2 : m2 ≡ put_run m first (gap + 8 * w) v = p2 ∙ rw p1 (sym (bits-add m first (λ k. v) gap (8 * w))) in
      let a3 : first + gap + w * 8 ≡ first + (gap + 8 * w) = omega arith in
      let p3 : out ≡ put_run m2 (first + (gap + 8 * w)) t v = rw a3 at (part-run m2 out (first + gap + w * 8) t (omega arith) eo) in
      let all : gap + 8 * w + t ≡ rows = omega arith in
      rw (← all) (p3 ∙ rw q2 (sym (bits-add m first (λ k. v) (gap + 8 * w) t)))
