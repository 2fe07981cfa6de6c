-- Words that overlap: a value of 8 to 32 bytes stored by two or four words. Assumes nothing.
use Prim.Native.Nat.{ℕ, zero, suc, ◌+◌, ◌-◌, ◌*◌, ◌/◌, ◌%◌, ◌^◌, ◌<◌, ◌≤◌}
use native.Mathlib.Nat.{add-suc}
use native.Mathlib.Numerals.{add-one}
use native.Mathlib.Omega.{arith}
use mathlib.Core.Path.{◌≡◌, refl, sym, ◌∙◌}
use mathlib.Core.Bool.{Bool, true, false}
use mathlib.Core.List.{List, ◌++◌}
use borrow.Author.Tests.{leb-true, leb-false, ltb-true, ltb-false}
use lib.Dec.{leb, ltb}
use lib.ListN.{length, get_or, drop, length-append, length-drop, get_or-append}
use lib.Seq.{ext_get_or, get_or-append-add, get_or-drop, get_or-set_same, get_or-set_other}
use Rattle.words.specs.Words.{Bytes, word_at, put_word}
use Rattle.words.specs.WordLaws.{word-digit, length-put}

-- what a store leaves: its own bytes inside, the others outside
put-below : (l : List ℕ) (i v n k : ℕ) → k < i → get_or (put_word l i v n) k 0 ≡ get_or l k 0
unfolding put_word
put-below l i v zero k h = refl
put-below l i v (suc n) k h = get_or-set_other (put_word l i v n) (i + n) k (v / 2 ^ (8 * n) % 256) 0 (λ e. omega arith) ∙ put-below l i v n k h

put-above : (l : List ℕ) (i v n k : ℕ) → i + n ≤ k → get_or (put_word l i v n) k 0 ≡ get_or l k 0
unfolding put_word
put-above l i v zero k h = refl
put-above l i v (suc n) k h = get_or-set_other (put_word l i v n) (i + n) k (v / 2 ^ (8 * n) % 256) 0 (λ e. omega arith) ∙ put-above l i v n k (omega arith)

put-inside : (l : List ℕ) (i v j m : ℕ) → i + (j + suc m) ≤ length l → get_or (put_word l i v (j + suc m)) (i + j) 0 ≡ v / 2 ^ (8 * j) % 256
unfolding put_word
put-inside l i v j zero h =
    rw (add-one j)
    (get_or-set_same (put_word l i v j) (i + j) (v / 2 ^ (8 * j) % 256) 0 (rw (length-put l i v j) (omega arith)))
put-inside l i v j (suc m) h =
    rw (add-suc j (suc m))
    (get_or-set_other (put_word l i v (j + suc m)) (i + (j + suc m)) (i + j) (v / 2 ^ (8 * (j + suc m)) % 256) 0 (λ e. omega arith)
    ∙ put-inside l i v j m (omega arith))

-- a word stored where it was read: a byte in it is the source's, and one outside is as before
store : (t s : List ℕ) (i x k : ℕ) → Bytes s → x ≡ word_at s i 8 → i + 8 ≤ length t
    → (k < i → get_or t k 0 ≡ get_or s k 0) → (i + 8 ≤ k → get_or t k 0 ≡ get_or s k 0) → get_or (put_word t i x 8) k 0 ≡ get_or s k 0
store t s i x k hb ex h lo hi = by (ltb k i) (leb (i + 8) k) refl refl
  where
    inside : (j m : ℕ) → j + suc m ≡ 8 → i + j ≡ k → get_or (put_word t i x 8) k 0 ≡ get_or s k 0
    inside j m e q =
        let stored : get_or (put_word t i x 8) (i + j) 0 ≡ x / 2 ^ (8 * j) % 256 = rw e at (put-inside t i x j m (omega arith)) in
        let read : word_at s i 8 / 2 ^ (8 * j) % 256 ≡ get_or s (i + j) 0 = rw e at (word-digit s i j m hb) in
        rw (← q) (stored ∙ rw ex read)

    by : (p q : Bool) → ltb k i ≡ p → leb (i + 8) k ≡ q → get_or (put_word t i x 8) k 0 ≡ get_or s k 0
    by true q a b = put-below t i x 8 k (ltb-true k i a) ∙ lo (ltb-true k i a)
    by false true a b = put-above t i x 8 k (leb-true (i + 8) k b) ∙ hi (leb-true (i + 8) k b)
    by false false a b =
        let p = ltb-false k i a in
        let q = leb-false (i + 8) k b in
        inside (k - i) (7 - (k - i)) (omega arith) (omega arith)

-- a list that is s in front and as d behind
over-is : (s d t : List ℕ) → length s ≤ length d → length t ≡ length d → ((k : ℕ) → k < length s → get_or t k 0 ≡ get_or s k 0)
    → ((k : ℕ) → length s ≤ k → get_or t k 0 ≡ get_or d k 0) → t ≡ s ++ drop (length s) d
over-is s d t h e front back = ext_get_or 0 t (s ++ drop (length s) d) (simp (length-append, length-drop) (omega arith)) (λ k l. by k (ltb k (length s)) refl)
  where
    past : (k j : ℕ) → length s + j ≡ k → get_or t k 0 ≡ get_or (s ++ drop (length s) d) k 0
    past k j q = rw (← q) (back (length s + j) (omega arith) ∙ sym (get_or-append-add s (drop (length s) d) j 0 ∙ get_or-drop (length s) d j 0))

    by : (k : ℕ) (p : Bool) → ltb k (length s) ≡ p → get_or t k 0 ≡ get_or (s ++ drop (length s) d) k 0
    by k true a = front k (ltb-true k (length s) a) ∙ sym (get_or-append s (drop (length s) d) 0 k (ltb-true k (length s) a))
    by k false a =
        let p = ltb-false k (length s) a in
        past k (k - length s) (omega arith)

module _ (s d : List ℕ) (hb : Bytes s) (h : length s ≤ length d) where
  pub two-words : (x y : ℕ) → 8 ≤ length s → length s ≤ 16 → x ≡ word_at s 0 8 → y ≡ word_at s (length s - 8) 8
      → put_word (put_word d 0 x 8) (length s - 8) y 8 ≡ s ++ drop (length s) d
  two-words x y p q ex ey =
      let n : ℕ = length s in
      let l : length (put_word d 0 x 8) ≡ length d = length-put d 0 x 8 in
      over-is s d _ h (length-put _ _ _ 8 ∙ l)
      (λ k g. store (put_word d 0 x 8) s (n - 8) y k hb ey (omega arith)
      (λ a. store d s 0 x k hb ex (omega arith) (λ b. absurd (omega arith)) (λ b. absurd (omega arith)))
      (λ a. absurd (omega arith)))
      (λ k g. put-above (put_word d 0 x 8) (n - 8) y 8 k (omega arith) ∙ put-above d 0 x 8 k (omega arith))

  pub four-words : (x y z w : ℕ) → 16 ≤ length s → length s ≤ 32 → x ≡ word_at s 0 8 → y ≡ word_at s 8 8 → z ≡ word_at s (length s - 16) 8
      → w ≡ word_at s (length s - 8) 8
      → put_word (put_word (put_word (put_word d 0 x 8) 8 y 8) (length s - 16) z 8) (length s - 8) w 8 ≡ s ++ drop (length s) d
  four-words x y z w p q ex ey ez ew =
      let n : ℕ = length s in
      let d₁ : List ℕ = put_word d 0 x 8 in
      let d₂ : List ℕ = put_word d₁ 8 y 8 in
      let d₃ : List ℕ = put_word d₂ (n - 16) z 8 in
      let l₁ : length d₁ ≡ length d = length-put d 0 x 8 in
      let l₂ : length d₂ ≡ length d = length-put d₁ 8 y 8 ∙ l₁ in
      let l₃ : length d₃ ≡ length d = length-put d₂ (n - 16) z 8 ∙ l₂ in
      over-is s d _ h (length-put d₃ (n - 8) w 8 ∙ l₃)
      (λ k g. store d₃ s (n - 8) w k hb ew (omega arith)
      (λ a. store d₂ s (n - 16) z k hb ez (omega arith)
      (λ b. store d₁ s 8 y k hb ey (omega arith)
      (λ e. store d s 0 x k hb ex (omega arith) (λ f. absurd (omega arith)) (λ f. absurd (omega arith)))
      (λ e. absurd (omega arith)))
      (λ b. absurd (omega arith)))
      (λ a. absurd (omega arith)))
      (λ k g. put-above d₃ (n - 8) w 8 k (omega arith) ∙ put-above d₂ (n - 16) z 8 k (omega arith) ∙ put-above d₁ 8 y 8 k (omega arith)
      ∙ put-above d 0 x 8 k (omega arith))
