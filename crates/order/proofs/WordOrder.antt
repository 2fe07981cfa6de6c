-- The byte order by words: bytes as one number, the high byte first, decide it. Assumes nothing.
use Rattle.std.specs.Prelude.{◌≡◌, refl, List, length, get_or, take, drop}
use Rattle.std.proofs.Common.{sym, ◌∙◌, add-zero, add-suc, zero-add, arith, drop_of_length-le, length-drop, drop-cons, length-take-le}
use Prim.Native.Nat.{ℕ, zero, suc, ◌+◌, ◌*◌, ◌≤◌, ◌<◌, compare, Ordering}
use Rattle.words.specs.Words.{Bytes, word_at, be_at}
use Rattle.words.specs.ListLaws.{be-part, bytes-part}
use Rattle.order.specs.Order.{thenby, cmp, short_order}
use Rattle.order.proofs.OrderLaws.{compare-lt, compare-gt, compare-eq, Tri, below, level, above, tri}

assoc : (c o p : Ordering) → thenby (thenby c o) p ≡ thenby c (thenby o p)
assoc Ordering.lt o p = refl
assoc Ordering.eq o p = refl
assoc Ordering.gt o p = refl

-- two numbers by their high parts, then by their last digits
digit : (u v x y : ℕ) → x < 256 → y < 256 → thenby (compare u v) (compare x y) ≡ compare (u * 256 + x) (v * 256 + y)
digit u v x y hx hy = by (tri u v)
  where
    by : Tri u v → thenby (compare u v) (compare x y) ≡ compare (u * 256 + x) (v * 256 + y)
    by (below h) = rw (compare-lt u v h) (sym (compare-lt (u * 256 + x) (v * 256 + y) (omega arith)))
    by (above h) = rw (compare-gt u v h) (sym (compare-gt (u * 256 + x) (v * 256 + y) (omega arith)))
    by (level h) = rw (compare-eq u v h) (last (tri x y))
      where
        last : Tri x y → compare x y ≡ compare (u * 256 + x) (v * 256 + y)
        last (below k) = rw (compare-lt x y k) (sym (compare-lt (u * 256 + x) (v * 256 + y) (omega arith)))
        last (above k) = rw (compare-gt x y k) (sym (compare-gt (u * 256 + x) (v * 256 + y) (omega arith)))
        last (level k) = rw (compare-eq x y k) (sym (compare-eq (u * 256 + x) (v * 256 + y) (omega arith)))

-- numbers that differ decide
pub firm : (x y : ℕ) (o : Ordering) → (x ≡ y → ⊥) → thenby (compare x y) o ≡ compare x y
firm x y o ne = by (tri x y)
  where
    by : Tri x y → thenby (compare x y) o ≡ compare x y
    by (below h) = rw (compare-lt x y h)
    by (above h) = rw (compare-gt x y h)
    by (level h) = absurd (ne h)

-- one byte
pub cmp-byte : (a b : List ℕ) (i : ℕ) → i < length a → i < length b
    → cmp (drop i a) (drop i b) ≡ thenby (compare (get_or a i 0) (get_or b i 0)) (cmp (drop (suc i) a) (drop (suc i) b))
unfolding cmp
cmp-byte a b i ha hb = rw (drop-cons a i 0 ha, drop-cons b i 0 hb)

-- n bytes as one number, the high byte first
pub cmp-word : (a b : List ℕ) (i n : ℕ) → Bytes a → Bytes b → i + n ≤ length a → i + n ≤ length b
    → cmp (drop i a) (drop i b) ≡ thenby (compare (be_at a i n) (be_at b i n)) (cmp (drop (i + n) a) (drop (i + n) b))
unfolding be_at
cmp-word a b i zero ba bb ha hb = rw (add-zero i)
cmp-word a b i (suc n) ba bb ha hb =
    rw (
      cmp-word a b i n ba bb (omega arith) (omega arith),
      cmp-byte a b (i + n) (omega arith) (omega arith),
      add-suc i n,
      ← assoc (compare (be_at a i n) (be_at b i n)) (compare (get_or a (i + n) 0) (get_or b (i + n) 0)) (cmp (drop (suc (i + n)) a) (drop (suc (i + n)) b)),
      digit (be_at a i n) (be_at b i n) (get_or a (i + n) 0) (get_or b (i + n) 0) (ba (i + n)) (bb (i + n)),
    )

pub still : (o : Ordering) → thenby o Ordering.eq ≡ o
still Ordering.lt = refl
still Ordering.eq = refl
still Ordering.gt = refl

pub none_left : (v w : List ℕ) (n : ℕ) → length v ≡ n → length w ≡ n → cmp (drop n v) (drop n w) ≡ Ordering.eq
unfolding cmp
none_left v w n hv hw = rw (drop_of_length-le v {i = n} (omega arith), drop_of_length-le w {i = n} (omega arith))

-- n bytes of each as one number
part-order : (a b : List ℕ) (i n : ℕ) → Bytes a → Bytes b → i + n ≤ length a → i + n ≤ length b → compare (be_at a i n) (be_at b i n)
    ≡ cmp (take n (drop i a)) (take n (drop i b))
part-order a b i n ba bb ha hb =
    let p : List ℕ = take n (drop i a) in
    let q : List ℕ = take n (drop i b) in
    let lp : length p ≡ n = length-take-le n (drop i a) (simp length-drop (omega arith)) in
    let lq : length q ≡ n = length-take-le n (drop i b) (simp length-drop (omega arith)) in
    let ep : be_at p 0 n ≡ be_at a i n = rw (add-zero i) at (be-part a i n 0 n (omega arith)) in
    let eq : be_at q 0 n ≡ be_at b i n = rw (add-zero i) at (be-part b i n 0 n (omega arith)) in
    let whole : cmp p q ≡ thenby (compare (be_at p 0 n) (be_at q 0 n)) (cmp (drop (0 + n) p) (drop (0 + n) q)) = cmp-word p q 0 n (bytes-part a i n ba)
    (bytes-part b i n bb) (omega arith) (omega arith) in
    sym (whole ∙ rw (zero-add n, none_left p q n lp lq, ep, eq) (still (compare (be_at a i n) (be_at b i n))))

-- the first four bytes after the length, of two views: where they differ they decide
module _ (v w : List ℕ) (bv : Bytes v) (bw : Bytes w) (hv : length v ≡ 16) (hw : length w ≡ 16) (p q : ℕ) (ep : p ≡ be_at v 4 4) (eq : q ≡ be_at w 4 4) where
  four : compare p q ≡ cmp (take 4 (drop 4 v)) (take 4 (drop 4 w))
  four = rw (ep, eq) (part-order v w 4 4 bv bw (omega arith) (omega arith))

  pub four-equal : p ≡ q → cmp (take 4 (drop 4 v)) (take 4 (drop 4 w)) ≡ Ordering.eq
  four-equal e = rw (← four, compare-eq p q e)

  pub four-first : (p ≡ q → ⊥) → (o : Ordering) → compare p q ≡ thenby (cmp (take 4 (drop 4 v)) (take 4 (drop 4 w))) o
  four-first ne o = rw (← four) (sym (firm p q o ne))

  pub four-short : (p ≡ q → ⊥) → compare p q ≡ short_order v w
  unfolding short_order
  four-short ne =
      let first : cmp (drop 4 v) (drop 4 w) ≡ thenby (compare p q) (cmp (drop 8 v) (drop 8 w)) = rw (ep, eq)
      (cmp-word v w 4 4 bv bw (omega arith) (omega arith)) in
      rw (first, firm p q (cmp (drop 8 v) (drop 8 w)) ne) (sym (firm p q (compare (word_at v 0 4) (word_at w 0 4)) ne))
