-- Laws of the byte order: what equal bytes, words that differ and lengths decide. Assumes nothing.
use mathlib.Core.Path.{◌≡◌, refl, sym, ◌∙◌}
use mathlib.Core.List.{List, [], ◌∷◌}
use Prim.Native.Nat.compare
use Prim.Native.Nat.{ℕ, zero, suc, ◌+◌, ◌-◌, ◌*◌, ◌/◌, ◌%◌, ◌^◌, ◌≤◌, min, compare, Ordering}
use native.Mathlib.Nat.{zero-add}
use native.Mathlib.Omega.{arith}
use borrow.Author.Count.{below_more}
use lib.Bits.{bit_or, bit_xor, or_add_and, xor_add_and, and_le_l, and_le_r, xor_self}
use lib.ListN.{length, get_or, drop}
use lib.Seq.{ext_get_or}
use Rattle.words.specs.Words.{Bytes, word_at, be_at}
use Rattle.words.specs.WordLaws.{word-digit}
use Rattle.order.specs.Order.{thenby, cmp, Agree}
use Rattle.order.proofs.OrderLaws.{compare-eq, Tri, below, level, above, tri}
use Rattle.order.proofs.WordOrder.{firm, cmp-byte, cmp-word, still, none_left}

-- ---- the order of lists

-- equal bytes in front leave the order to the rest
cmp-from : (a b : List ℕ) (i : ℕ) → i ≤ length a → i ≤ length b → Agree a b 0 i → cmp a b ≡ cmp (drop i a) (drop i b)
cmp-from a b zero ha hb e = refl
cmp-from a b (suc i) ha hb e =
    cmp-from a b i (omega arith) (omega arith) (λ k h. e k (omega arith))
    ∙ cmp-byte a b i ha hb
    ∙ rw (compare-eq (get_or a i 0) (get_or b i 0) (rw zero-add at (e i (omega arith))))

-- the first word that differs decides
pub word-decides : (a b : List ℕ) (i n x y : ℕ) → Bytes a → Bytes b → i + n ≤ length a → i + n ≤ length b → Agree a b 0 i
    → x ≡ be_at a i n → y ≡ be_at b i n → (x ≡ y → ⊥) → compare x y ≡ cmp a b
word-decides a b i n x y ba bb ha hb e ex ey ne =
    sym (cmp-from a b i (omega arith) (omega arith) e ∙ rw (← ex, ← ey) at (cmp-word a b i n ba bb ha hb)
    ∙ firm x y (cmp (drop (i + n) a) (drop (i + n) b)) ne)

-- where no byte differs, the lengths decide
pub lengths-decide : (a b : List ℕ) → Agree a b 0 (min (length a) (length b)) → compare (length a) (length b) ≡ cmp a b
unfolding cmp
lengths-decide [] [] e = compare.zero-zero
lengths-decide [] (y ∷ b) e = compare.zero-suc (length b)
lengths-decide (x ∷ a) [] e = compare.suc-zero (length a)
lengths-decide (x ∷ a) (y ∷ b) e =
    let h : x ≡ y = e 0 (omega arith) in
    rw (compare.suc-suc (length a) (length b), compare-eq x y h)
    (lengths-decide a b (λ k l. rw (zero-add k) (rw (zero-add (suc k)) at (e (suc k) (omega arith)))))

-- ---- equal bytes

-- equal words have equal bytes
pub word-agree : (a b : List ℕ) (i n : ℕ) → Bytes a → Bytes b → be_at a i n ≡ be_at b i n → Agree a b i n
unfolding be_at
word-agree a b i zero ba bb e k h = absurd (omega arith)
word-agree a b i (suc n) ba bb e k h =
    by (word-agree a b i n ba bb (omega (arith, ba (i + n), bb (i + n)))) (tri k n)
  where
    by : Agree a b i n → Tri k n → get_or a (i + k) 0 ≡ get_or b (i + k) 0
    by ih (below l) = ih k l
    by ih (level l) = rw l (omega (arith, ba (i + n), bb (i + n)))
    by ih (above l) = absurd (omega arith)

pub le-agree : (a b : List ℕ) (i n : ℕ) → Bytes a → Bytes b → word_at a i n ≡ word_at b i n → Agree a b i n
le-agree a b i n ba bb e k h = by (n - suc k) (omega arith)
  where
    by : (m : ℕ) → k + suc m ≡ n → get_or a (i + k) 0 ≡ get_or b (i + k) 0
    by m q =
        let x : word_at a i n / 2 ^ (8 * k) % 256 ≡ get_or a (i + k) 0 = rw q at (word-digit a i k m ba) in
        let y : word_at b i n / 2 ^ (8 * k) % 256 ≡ get_or b (i + k) 0 = rw q at (word-digit b i k m bb) in
        sym x ∙ rw e y

-- n equal bytes, and m more
pub agree-more : (a b : List ℕ) (i n m : ℕ) → Agree a b i n → Agree a b (i + n) m → Agree a b i (n + m)
agree-more a b i n m e f k h = by (tri k n)
  where
    past : n ≤ k → get_or a (i + k) 0 ≡ get_or b (i + k) 0
    past l =
        let p : i + n + (k - n) ≡ i + k = omega arith in
        rw p at (f (k - n) (omega arith))

    by : Tri k n → get_or a (i + k) 0 ≡ get_or b (i + k) 0
    by (below l) = e k l
    by (level l) = past (omega arith)
    by (above l) = past (omega arith)

-- ---- a block's bytes, by xor and or

pub or-none : (x y : ℕ) → bit_or x y ≡ 0 → (x ≡ 0) × (y ≡ 0)
or-none x y e =
    (omega (arith, or_add_and x y, and_le_r x y), omega (arith, or_add_and x y, and_le_l x y))

pub xor-none : (x y : ℕ) → bit_xor x y ≡ 0 → x ≡ y
xor-none x y e = omega (arith, xor_add_and x y, and_le_l x y, and_le_r x y)

pub block_more_lem : (a b : List ℕ) (i k d : ℕ) → (d ≡ 0 → Agree a b i k) → bit_or d (bit_xor (get_or a (i + k) 0) (get_or b (i + k) 0)) ≡ 0 → Agree a b i (k + 1)
block_more_lem a b i k d h e =
    let o = or-none d (bit_xor (get_or a (i + k) 0) (get_or b (i + k) 0)) e in
    below_more (λ (j : ℕ). get_or a (i + j) 0 ≡ get_or b (i + j) 0) k (h o.0) (xor-none (get_or a (i + k) 0) (get_or b (i + k) 0) o.1)

pub block_same : (a b : List ℕ) (i k d : ℕ) → (Agree a b i k → d ≡ 0) → Agree a b i (k + 1) → bit_or d (bit_xor (get_or a (i + k) 0) (get_or b (i + k) 0)) ≡ 0
block_same a b i k d h e =
    rw (h (λ j l. e j (omega arith)), e k (omega arith), xor_self (get_or b (i + k) 0))

-- equal bytes from the start, and n more
pub agree-next : (a b : List ℕ) (i n : ℕ) → Agree a b 0 i → Agree a b i n → Agree a b 0 (i + n)
agree-next a b i n e f = agree-more a b 0 i n e (rw (zero-add i) f)

-- .. which are one word
pub word_same : (a b : List ℕ) (i n x y : ℕ) → Bytes a → Bytes b → Agree a b 0 i → x ≡ be_at a i n → y ≡ be_at b i n → x ≡ y → Agree a b 0 (i + n)
word_same a b i n x y ba bb e ex ey exy = agree-next a b i n e (word-agree a b i n ba bb (sym ex ∙ exy ∙ ey))

pub le_same : (a b : List ℕ) (i n x y : ℕ) → Bytes a → Bytes b → Agree a b 0 i → x ≡ word_at a i n → y ≡ word_at b i n → x ≡ y → Agree a b 0 (i + n)
le_same a b i n x y ba bb e ex ey exy = agree-next a b i n e (le-agree a b i n ba bb (sym ex ∙ exy ∙ ey))

-- lists of one length whose bytes are equal
pub same-all : (a b : List ℕ) (n : ℕ) → n ≡ length a → n ≡ length b → Agree a b 0 n → a ≡ b
same-all a b n ha hb e = ext_get_or 0 a b (sym ha ∙ hb) (λ k h. rw (zero-add k) at (e k (omega arith)))

-- ---- two short views whose first four bytes are equal: the other eight as a word

module _ (v w : List ℕ) (bv : Bytes v) (bw : Bytes w) (hv : length v ≡ 16) (hw : length w ≡ 16) (four : be_at v 4 4 ≡ be_at w 4 4)
    (x y : ℕ) (ex : x ≡ be_at v 8 8) (ey : y ≡ be_at w 8 8) (o : Ordering) where
  twelve : cmp (drop 4 v) (drop 4 w) ≡ compare x y
  twelve =
      cmp-word v w 4 4 bv bw (omega arith) (omega arith) ∙ rw (compare-eq (be_at v 4 4) (be_at w 4 4) four, ex, ey)
      (cmp-word v w 8 8 bv bw (omega arith) (omega arith) ∙ rw (none_left v w 16 hv hw) (still (compare (be_at v 8 8) (be_at w 8 8))))

  pub eight-differ : (x ≡ y → ⊥) → compare x y ≡ thenby (cmp (drop 4 v) (drop 4 w)) o
  eight-differ ne = rw twelve (sym (firm x y o ne))

  pub eight-equal : x ≡ y → o ≡ thenby (cmp (drop 4 v) (drop 4 w)) o
  eight-equal e = rw (twelve, compare-eq x y e)
