-- A view's two words: the bytes of a word read are those read, with zeros past the end, and two words stored are the view pasted. Assumes nothing.
use mathlib.Core.Path.{◌≡◌, refl, sym, ap, ◌∙◌}
use mathlib.Core.List.{List, [], ◌∷◌, ◌++◌, append_assoc}
use mathlib.Core.Bool.{Bool, true, false}
use Prim.Native.Nat.{ℕ, zero, suc, ◌+◌, ◌-◌, ◌*◌, ◌/◌, ◌%◌, ◌^◌, min, ◌≤◌, ◌<◌}
use native.Mathlib.Nat.{add-zero, zero-add, suc-add, add_assoc, add_comm, mul_comm, mul_assoc, one-mul, pow-suc}
use native.Mathlib.Numerals.{one-add}
use native.Mathlib.Omega.{arith}
use borrow.Author.Tests.{leb-true, leb-false}
use lib.Dec.{leb}
use lib.Pow.{high}
use lib.ListN.{length, get_or, take, drop, length-append, get_or-eq_default}
use lib.Seq.{drop-nil, paste, length-paste, take-paste, drop-paste, drop-drop, get_or-drop, take_all}
use Rattle.words.specs.Words.{Bytes, word_at, put_word, enc, pad}
use Rattle.words.specs.WordLaws.{le4, word_lt, word-one, word_split, word-past, word-tail}
use Rattle.words.specs.ListLaws.{length-enc, put-enc}
use Rattle.views.specs.View.{short_view, long_view, zero_view}

-- two words side by side
paste-two : (l x y : List ℕ) (i n m : ℕ) → length x ≡ n → length y ≡ m → i + n + m ≤ length l → paste (paste l i x n) (i + n) y m ≡ paste l i (x ++ y) (n + m)
paste-two l x y i n m ex ey h =
    let front : take (i + n) (paste l i x n) ≡ take i l ++ x = take-paste l i x n (omega arith) (omega arith) ∙ rw (take_all n x (omega arith)) in
    let rest : drop (i + n) (paste l i x n) ≡ drop (i + n) l = drop-paste l i x n (omega arith) (omega arith) in
    let back : drop (i + n + m) (paste l i x n) ≡ drop (i + n + m) l = sym (drop-drop m (i + n) (paste l i x n)) ∙ ap (drop m) rest ∙ drop-drop m (i + n) l in
    let all : take (n + m) (x ++ y) ≡ x ++ y = take_all (n + m) (x ++ y) (simp length-append (omega arith)) in
    rw (front, back, all, take_all m y (omega arith), add_assoc i n m, append_assoc (take i l) x y)

-- the bytes of a number in two parts
enc-cat : (w k n a : ℕ) → n < 256 ^ w → enc (w + k) (n + 256 ^ w * a) ≡ enc w n ++ enc k a
unfolding enc
enc-cat zero k n a h =
    let z : n ≡ 0 = omega arith in
    rw (z, zero-add k, one-mul a, zero-add a)
enc-cat (suc w) k n a h =
    let p : 256 ^ suc w * a ≡ 256 * (256 ^ w * a) = rw (pow-suc 256 w, mul_comm (256 ^ w) 256) (mul_assoc 256 (256 ^ w) a) in
    let low : (n + 256 ^ suc w * a) % 256 ≡ n % 256 = omega arith in
    let high : (n + 256 ^ suc w * a) / 256 ≡ n / 256 + 256 ^ w * a = omega arith in
    rw (suc-add w k, low, high, enc-cat w k (n / 256) a (omega (arith, pow-suc 256 w)))

-- the bytes of a word read are those read, with zeros past the end
pad-cons : (n : ℕ) (x : List ℕ) → pad (suc n) x ≡ get_or x 0 0 ∷ pad n (drop 1 x)
unfolding pad
pad-cons n [] = refl
pad-cons n (a ∷ x) = refl

enc-pad : (l : List ℕ) (i n : ℕ) → Bytes l → enc n (word_at l i n) ≡ pad n (drop i l)
unfolding enc pad
enc-pad l i zero hb = refl
enc-pad l i (suc n) hb =
    let one : word_at l i 1 ≡ get_or l i 0 = word-one l i in
    let cut : word_at l i (suc n) ≡ get_or l i 0 + 256 * word_at l (i + 1) n = rw (← one) (rw (one-add n) at (word_split l i 1 n)) in
    let low : word_at l i (suc n) % 256 ≡ get_or l i 0 = omega (arith, hb i) in
    let high : word_at l i (suc n) / 256 ≡ word_at l (i + 1) n = omega (arith, hb i) in
    rw (low, high, enc-pad l (i + 1) n hb, pad-cons n (drop i l), get_or-drop i l 0 0, add-zero i, drop-drop 1 i l)

pad-cat : (n m : ℕ) (x : List ℕ) → pad (n + m) x ≡ pad n x ++ pad m (drop n x)
unfolding pad
pad-cat zero m x = rw (zero-add m)
pad-cat (suc n) m [] = rw (suc-add n m, pad-cat n m [], drop-nil n)
pad-cat (suc n) m (a ∷ x) = rw (suc-add n m, pad-cat n m x)

-- two words stored side by side
two-stores : (l : List ℕ) (o x y : ℕ) → o + 16 ≤ length l → put_word (put_word l o x 8) (o + 8) y 8 ≡ paste l o (enc 8 x ++ enc 8 y) 16
two-stores l o x y h =
    let n : length (paste l o (enc 8 x) 8) ≡ length l = length-paste l o (enc 8 x) 8 (omega arith) (omega (arith, length-enc 8 x)) in
    rw (
      put-enc l o x 8 (omega arith),
      put-enc (paste l o (enc 8 x) 8) (o + 8) y 8 (omega arith),
      paste-two l (enc 8 x) (enc 8 y) o 8 8
          (length-enc 8 x) (length-enc 8 y) (omega arith),
    )

-- the word of a length and of the value's first four bytes
first_word : (v : List ℕ) (x : ℕ) → Bytes v → length v < 4294967296 → x ≡ length v + 4294967296 * word_at v 0 4 → enc 8 x ≡ enc 4 (length v) ++ pad 4 v
first_word v x hb h ex = rw ex (enc-cat 4 4 (length v) (word_at v 0 4) h ∙ rw (enc-pad v 0 4 hb))

pub two-words : (l v : List ℕ) (o x y : ℕ) → Bytes v → o + 16 ≤ length l → length v ≤ 12 → x ≡ length v + 4294967296 * word_at v 0 4 → y ≡ word_at v 4 8
    → put_word (put_word l o x 8) (o + 8) y 8 ≡ paste l o (short_view v) 16
unfolding short_view
two-words l v o x y hb h hv ex ey =
    rw (
      two-stores l o x y h,
      first_word v x hb (omega arith) ex,
      ey,
      enc-pad v 4 8 hb,
      append_assoc (enc 4 (length v)) (pad 4 v) (pad 8 (drop 4 v)),
      ← pad-cat 4 8 v,
    )

pub long-words : (l v : List ℕ) (o x y k f : ℕ) → Bytes v → o + 16 ≤ length l → length v < 4294967296 → k < 4294967296
    → x ≡ length v + 4294967296 * word_at v 0 4 → y ≡ k + 4294967296 * f
    → put_word (put_word l o x 8) (o + 8) y 8 ≡ paste l o (long_view v k f) 16
unfolding long_view
long-words l v o x y k f hb h hv hk ex ey =
    rw (two-stores l o x y h, first_word v x hb hv ex, ey, enc-cat 4 4 k f hk, append_assoc (enc 4 (length v)) (pad 4 v) (enc 4 k ++ enc 4 f))

pub zero-words : (l : List ℕ) (o : ℕ) → o + 16 ≤ length l → put_word (put_word l o 0 8) (o + 8) 0 8 ≡ paste l o zero_view 16
unfolding zero_view enc pad
zero-words l o h = two-stores l o 0 0 h

-- the words, by the length of the value

pub few-is : (v : List ℕ) (x : ℕ) → x ≡ get_or v 0 0 + 256 * get_or v 1 0 + 65536 * get_or v 2 0 → length v < 4 → x ≡ word_at v 0 4
few-is v x e h = omega (arith, le4 v 0, get_or-eq_default v 0 {n = 3} (omega arith))

pub rest-none : (v : List ℕ) → length v < 4 → 0 ≡ word_at v 4 8
rest-none v h = sym (word-past v 4 8 (omega arith))

-- bytes 4 to 4 + k, from the word that ends there
middle : (v : List ℕ) (k : ℕ) → Bytes v → k ≤ 4 → word_at v k 4 / 2 ^ (8 * (4 - k)) ≡ word_at v 4 k
middle v k hb h =
    let all : 4 - k + k ≡ 4 = omega arith in
    let at : k + (4 - k) ≡ 4 = omega arith in
    let cut : word_at v k 4 ≡ word_at v k (4 - k) + 2 ^ (8 * (4 - k)) * word_at v 4 k = rw (all, at) at (word_split v k (4 - k) k) in
    rw (cut, mul_comm (2 ^ (8 * (4 - k))) (word_at v 4 k), add_comm (word_at v k (4 - k)) (word_at v 4 k * 2 ^ (8 * (4 - k))))
    (high (word_at v 4 k) (8 * (4 - k)) (word_lt v k (4 - k) hb))

module _ (v : List ℕ) (k : ℕ) (hb : Bytes v) (h : 4 ≤ length v) (most : length v ≤ 12) (e : k ≡ min (length v - 4) 4) where
  last : word_at v (length v - 4) 4 / 2 ^ (8 * (8 + k - length v)) ≡ word_at v (4 + k) 4
  last =
      let s : 4 + k + 4 - length v ≡ 8 + k - length v = omega arith in
      rw s at (word-tail v (4 + k) hb h (omega arith) (omega arith))

  joined : word_at v 4 k + 4294967296 * word_at v (4 + k) 4 ≡ word_at v 4 8
  joined = by (leb 8 (length v)) refl
    where
      zeros : (x p : ℕ) → x + 4294967296 * 0 ≡ x + p * 0
      zeros x p = omega arith

      by : (t : Bool) → leb 8 (length v) ≡ t → word_at v 4 k + 4294967296 * word_at v (4 + k) 4 ≡ word_at v 4 8
      by true q =
          let four : k ≡ 4 = omega (arith, leb-true 8 (length v) q) in
          rw four (sym (word_split v 4 4 4))
      by false q =
          let n : length v ≤ 4 + k = omega (arith, leb-false 8 (length v) q) in
          let w : k + (8 - k) ≡ 8 = omega (arith, leb-false 8 (length v) q) in
          let whole : word_at v 4 8 ≡ word_at v 4 k + 2 ^ (8 * k) * word_at v (4 + k) (8 - k) = rw w at (word_split v 4 k (8 - k)) in
          rw (whole, word-past v (4 + k) 4 n, word-past v (4 + k) (8 - k) n) (zeros (word_at v 4 k) (2 ^ (8 * k)))

  pub rest-is : word_at v k 4 / 2 ^ (8 * (4 - k)) + 4294967296 * (word_at v (length v - 4) 4 / 2 ^ (8 * (8 + k - length v))) ≡ word_at v 4 8
  rest-is = rw (middle v k hb (omega arith), last) joined

pub gone : (v : List ℕ) (k : ℕ) → length v ≤ k → get_or v k 0 ≡ 0
gone v k h = get_or-eq_default v 0 h
