-- Laws of numbers as lists of bytes (enc, dec), of padding, and of the words at a place as such lists. Assumes nothing.
use Rattle.std.specs.Prelude.{◌≡◌, refl, List, [], ◌∷◌, Bool, true, false, ℕ, zero, suc, ◌+◌, ◌*◌, ◌/◌, ◌%◌, ◌^◌, ◌≤◌, ◌<◌, ltb, length, take, drop, get_or, set}
use Rattle.std.proofs.Common.{sym, ap, ◌∙◌, le_of_suc-le-suc, not-suc-le-zero, div-add-mod', add-zero, add-suc, add_assoc, add_comm, div-one, mul-suc, add-one, one-add, arith, ltb-true, ltb-false, lit<, drop_of_length-le, length-take, length-drop, shr-shr, drop-cons, get_or-take, get_or-drop, length-take-le, take-take, drop-drop}
use Rattle.std.proofs.Math.ListN.{get_or-eq_default}
use Rattle.std.proofs.Math.Seq.{paste, paste-zero, paste-suc}
use Rattle.std.proofs.lemmas.List.Edits.{length-paste}
use Rattle.words.specs.Words.{Bytes, word_at, be_at, put_word, enc, dec, pad}
use Rattle.words.specs.WordLaws.{word_split, word-past, word-one, length-put}

pub length-enc : (w n : ℕ) → length (enc w n) ≡ w
unfolding enc
length-enc zero n = refl
length-enc (suc w) n = ap suc (length-enc w (n / 256))

pub dec-enc : (w n : ℕ) → n < 256 ^ w → dec (enc w n) ≡ n
unfolding enc dec
dec-enc zero n h = omega arith
dec-enc (suc w) n h = rw (dec-enc w (n / 256) (omega arith)) (div-add-mod' n 256)

pub length-pad : (n : ℕ) (x : List ℕ) → length (pad n x) ≡ n
unfolding pad
length-pad zero x = refl
length-pad (suc n) [] = ap suc (length-pad n [])
length-pad (suc n) (a ∷ x) = ap suc (length-pad n x)

pub take-pad : (m n : ℕ) (x : List ℕ) → m ≤ n → take m (pad n x) ≡ pad m x
unfolding pad
take-pad zero n x h = refl
take-pad (suc m) zero x h = absurd (not-suc-le-zero h)
take-pad (suc m) (suc n) [] h = ap (λ (r : List ℕ). 0 ∷ r) (take-pad m n [] (le_of_suc-le-suc h))
take-pad (suc m) (suc n) (a ∷ x) h = ap (λ (r : List ℕ). a ∷ r) (take-pad m n x (le_of_suc-le-suc h))

pub pad-short : (n : ℕ) (x : List ℕ) → n ≤ length x → pad n x ≡ take n x
unfolding pad
pad-short zero x h = refl
pad-short (suc n) [] h = absurd (not-suc-le-zero h)
pad-short (suc n) (a ∷ x) h = ap (λ (r : List ℕ). a ∷ r) (pad-short n x (le_of_suc-le-suc h))

-- a value that the padding holds comes back whole
pub take-length-pad : (n : ℕ) (x : List ℕ) → length x ≤ n → take (length x) (pad n x) ≡ x
unfolding pad
take-length-pad n [] h = refl
take-length-pad zero (a ∷ x) h = absurd (not-suc-le-zero h)
take-length-pad (suc n) (a ∷ x) h = ap (λ (r : List ℕ). a ∷ r) (take-length-pad n x (le_of_suc-le-suc h))

-- the number at a place is that of the bytes there: a byte past the end counts 0
pub word-dec : (l : List ℕ) (i n : ℕ) → word_at l i n ≡ dec (take n (drop i l))
unfolding word_at dec
word-dec l i zero = refl
word-dec l i (suc n) = by (ltb i (length l)) refl (word-dec l (suc i) n)
  where
    by : (b : Bool) → ltb i (length l) ≡ b → word_at l (suc i) n ≡ dec (take n (drop (suc i) l)) → word_at l i (suc n) ≡ dec (take (suc n) (drop i l))
    by true e more =
        let h = ltb-true i (length l) e in
        let cut : word_at l i (suc n) ≡ get_or l i 0 + 256 * word_at l (suc i) n = rw (← word-one l i, ← add-one i) (rw (one-add n) at (word_split l i 1 n)) in
        rw (cut, drop-cons l i 0 h, more) (omega arith)
    by false e more =
        let h = ltb-false i (length l) e in
        rw (word-past l i (suc n) h, drop_of_length-le l h)

-- a number inside a part is the whole list's
pub word-part : (l : List ℕ) (k m i n : ℕ) → i + n ≤ m → word_at (take m (drop k l)) i n ≡ word_at l (k + i) n
unfolding word_at
word-part l k m i zero h = refl
word-part l k m i (suc n) h =
    rw (word-part l k m i n (omega arith), get_or-take m (drop k l) (i + n) 0 (omega arith), get_or-drop k l (i + n) 0, add_assoc k i n)

pub be-part : (l : List ℕ) (k m i n : ℕ) → i + n ≤ m → be_at (take m (drop k l)) i n ≡ be_at l (k + i) n
unfolding be_at
be-part l k m i zero h = refl
be-part l k m i (suc n) h =
    rw (be-part l k m i n (omega arith), get_or-take m (drop k l) (i + n) 0 (omega arith), get_or-drop k l (i + n) 0, add_assoc k i n)

pub enc-dec : (l : List ℕ) → Bytes l → enc (length l) (dec l) ≡ l
unfolding enc dec
enc-dec [] hb = refl
enc-dec (b ∷ l) hb =
    let low : (dec l * 256 + b) % 256 ≡ b = omega (arith, hb 0) in
    let rest : (dec l * 256 + b) / 256 ≡ dec l = omega (arith, hb 0) in
    rw (low, rest, enc-dec l (λ j. hb (suc j)))

-- a part of bytes is bytes
pub bytes-part : (l : List ℕ) (i n : ℕ) → Bytes l → Bytes (take n (drop i l))
bytes-part l i n hb j = by (ltb j n) refl
  where
    by : (b : Bool) → ltb j n ≡ b → get_or (take n (drop i l)) j 0 < 2 ^ 8
    by true e = rw (get_or-take n (drop i l) j 0 (ltb-true j n e), get_or-drop i l j 0) (hb (i + j))
    by false e =
        let h = ltb-false j n e in
        rw (get_or-eq_default (take n (drop i l)) 0 {n = j} (simp length-take (omega arith))) (lit< tt)

-- the number at a place, written as bytes, is the bytes there
pub enc-word : (l : List ℕ) (i n : ℕ) → Bytes l → i + n ≤ length l → enc n (word_at l i n) ≡ take n (drop i l)
enc-word l i n hb h =
    let e : length (take n (drop i l)) ≡ n = length-take-le n (drop i l) (simp length-drop (omega arith)) in
    rw word-dec (rw e at (enc-dec (take n (drop i l)) (bytes-part l i n hb)))

pub get_or-enc : (w v j : ℕ) → j < w → get_or (enc w v) j 0 ≡ v / 2 ^ (8 * j) % 256
unfolding enc
get_or-enc zero v j h = absurd (omega arith)
get_or-enc (suc w) v zero h = rw (div-one v)
get_or-enc (suc w) v (suc j) h = rw (get_or-enc w (v / 256) j (omega arith), shr-shr v 8 (8 * j), mul-suc 8 j, add_comm (8 * j) 8)

-- a store is a paste of the number's bytes
pub put-enc : (l : List ℕ) (i v n : ℕ) → i + n ≤ length l → put_word l i v n ≡ paste l i (enc n v) n
unfolding put_word
put-enc l i v n h = upto n (omega arith)
  where
    upto : (k : ℕ) → k ≤ n → put_word l i v k ≡ paste l i (enc n v) k
    upto zero g = paste-zero l i (enc n v)
    upto (suc k) g =
        rw (upto k (omega arith), ← get_or-enc n v k g)
        (paste-suc l i (enc n v) k 0 (omega arith) (rw (length-enc n v) g))

-- a number read at one place and stored at another: the bytes copied
pub put_word_lem : (l s : List ℕ) (i p n : ℕ) → Bytes s → i + n ≤ length l → p + n ≤ length s → put_word l i (word_at s p n) n ≡ paste l i (drop p s) n
put_word_lem l s i p n hb h g =
    rw (put-enc l i (word_at s p n) n h, enc-word s p n hb g, take-take n n (drop p s) (omega arith))

-- a paste in two parts
pub paste-add : (d : List ℕ) (at : ℕ) (s : List ℕ) (m n : ℕ) → at + (m + n) ≤ length d → m + n ≤ length s → paste (paste d at s m) (at + m) (drop m s)
    n ≡ paste d at s (m + n)
paste-add d at s m zero h g = sym (paste-zero (paste d at s m) (at + m) (drop m s)) ∙ ap (paste d at s) (sym (add-zero m))
paste-add d at s m (suc n) h g =
    let more : set (paste (paste d at s m) (at + m) (drop m s) n) (at + m + n) (get_or (drop m s) n 0) ≡ paste (paste d at s m) (at + m) (drop m s) (suc n) =
    paste-suc (paste d at s m) (at + m) (drop m s) n 0 (rw (length-paste d at s m (omega arith) (omega arith)) (omega arith))
    (simp length-drop (omega arith)) in
    sym more ∙ rw (paste-add d at s m n (omega arith) (omega arith), get_or-drop m s n 0, add_assoc at m n, add-suc m n) (paste-suc d at s (m + n) 0
    (omega arith) (omega arith))

-- sixteen bytes by two words
pub put_two : (d s : List ℕ) (o p x y : ℕ) → Bytes s → o + 16 ≤ length d → p + 16 ≤ length s → x ≡ word_at s p 8 → y ≡ word_at s (p + 8) 8
    → put_word (put_word d o x 8) (o + 8) y 8 ≡ paste d o (drop p s) 16
put_two d s o p x y hb h g ex ey =
    let l : length (put_word d o (word_at s p 8) 8) ≡ length d = length-put d o (word_at s p 8) 8 in
    rw (
      ex,
      ey,
      put_word_lem (put_word d o (word_at s p 8) 8) s (o + 8) (p + 8) 8 hb (omega arith) (omega arith),
      put_word_lem d s o p 8 hb (omega arith)
          (omega arith),
      ← drop-drop 8 p s,
    )
    (paste-add d o (drop p s) 8 8 (omega arith) (simp length-drop (omega arith)))
