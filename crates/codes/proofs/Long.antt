-- A text of nine bytes and more is parted as a code is exactly where its windows are good, its first byte is no hyphen, and its last is a letter or digit.
-- Assumes nothing.
use mathlib.Core.Path.{◌≡◌, refl, sym, ap, ◌∙◌}
use mathlib.Core.Logic.{◌≢◌}
use mathlib.Core.Bool.{Bool, true, false, true≢false, not, ◌&&◌}
use mathlib.Core.List.{List, [], ◌∷◌}
use Prim.Native.Nat.{ℕ, suc, ◌+◌, ◌-◌, ◌≤◌, ◌<◌}
use native.Mathlib.Omega.{arith}
use borrow.Author.Tests.{leb-true, leb-false, le-leb, eq-eqb, eqb-true}
use lib.Dec.{leb}
use lib.ListN.{length, get_or}
use Rattle.codes.specs.Grammar.{hyphen_byte}
use Rattle.codes.specs.Recogniser.{is_hyphen, is_code_byte, may_stand, parted}
use Rattle.codes.specs.Windows.{every, pair_ok, window_ok}
use Rattle.codes.proofs.Laws.{both}
use Rattle.codes.proofs.CodeExactly.{InCode, byte-in, in-byte, stands-in, in-stands, Parts, parts-of, of_parts}
use Rattle.codes.proofs.Lanes.{every-at, all-every, same_test}
use Rattle.codes.proofs.Windows.{code-low}

-- ---- a pair

not-both : (s t : Bool) → not (s && t) ≡ true → s ≡ true → t ≡ true → ⊥
not-both s t h p q = true≢false (sym h ∙ (λ i. not (p i && q i)))

pair-single : (b c : ℕ) → pair_ok b c ≡ true → b ≡ hyphen_byte → c ≢ hyphen_byte
pair-single b c h e f = not-both (is_hyphen b) (is_hyphen c) (both (is_code_byte b) _ h).1 (eq-eqb b 45 e) (eq-eqb c 45 f)

single-pair : (b c : ℕ) → InCode b → (b ≡ hyphen_byte → c ≢ hyphen_byte) → pair_ok b c ≡ true
single-pair b c h f = rw (in-byte b h) (go (is_hyphen b) (is_hyphen c) refl refl)
  where
    go : (s t : Bool) → is_hyphen b ≡ s → is_hyphen c ≡ t → not (s && t) ≡ true
    go true true p q = absurd (f (eqb-true b 45 p) (eqb-true c 45 q))
    go true false p q = refl
    go false t p q = refl

-- ---- a window

module _ (x : List ℕ) where
  window-pair : (i k : ℕ) → window_ok x i ≡ true → i ≤ k → k < i + 8 → pair_ok (get_or x k 0) (get_or x (suc k) 0) ≡ true
  unfolding window_ok
  window-pair i k h l m =
      let f = both _ _ h in
      let p : i + (k - i) ≡ k = omega arith in
      let q : i + 1 + (k - i) ≡ suc k = omega arith in
      rw (p, q) at (every-at (λ (j : ℕ). pair_ok (get_or x (i + j) 0) (get_or x (i + 1 + j) 0)) 8 f.0 (k - i) (omega arith))

  pub window-of : Parts true x → (i : ℕ) → i + 9 ≤ length x → window_ok x i ≡ true
  unfolding window_ok
  window-of p i h =
      rw (le-leb (get_or x (i + 8) 0) 127 (ninth (code-low (get_or x (i + 8) 0) (in-byte (get_or x (i + 8) 0) (p.from (i + 8) (omega arith)))))) (yes pairs)
    where
      ninth : get_or x (i + 8) 0 < 128 → get_or x (i + 8) 0 ≤ 127
      ninth l = omega arith

      yes : {t : Bool} → t ≡ true → (t && true) ≡ true
      yes e = ap (λ (t : Bool). t && true) e

      pair : (j : ℕ) → j < 8 → pair_ok (get_or x (i + j) 0) (get_or x (i + 1 + j) 0) ≡ true
      pair j l =
          let q : suc (i + j) ≡ i + 1 + j = omega arith in
          rw (← q) (single-pair (get_or x (i + j) 0) (get_or x (suc (i + j)) 0) (p.from (i + j) (omega arith)) (p.doubled (i + j) (omega arith)))

      pairs : every (λ (j : ℕ). pair_ok (get_or x (i + j) 0) (get_or x (i + 1 + j) 0)) 8 ≡ true
      pairs = all-every (λ (j : ℕ). pair_ok (get_or x (i + j) 0) (get_or x (i + 1 + j) 0)) 8 pair

-- ---- the whole text

pub parts_at : (x : List ℕ) → 9 ≤ length x → parted true x ≡ true → Parts true x
parts_at [] h e = absurd (omega arith)
parts_at (b ∷ x) h e = parts-of true b x e

parted-at : (x : List ℕ) → 9 ≤ length x → Parts true x → parted true x ≡ true
parted-at [] h p = absurd (omega arith)
parted-at (b ∷ x) h p = of_parts true b x p

module _ (x : List ℕ) (h : 9 ≤ length x) where
  pub long-no : (Parts true x → ⊥) → false ≡ parted true x
  long-no n = go (parted true x) refl
    where
      go : (t : Bool) → parted true x ≡ t → false ≡ t
      go true e = absurd (n (parts_at x h e))
      go false e = refl

  pub last-stands : Parts true x → may_stand true (get_or x (length x - 1) 0) ≡ true
  last-stands p = in-stands true (get_or x (length x - 1) 0) (p.from (length x - 1) (omega arith)) (λ e. p.last)

  module _ (first : get_or x 0 0 ≢ hyphen_byte) (last : may_stand true (get_or x (length x - 1) 0) ≡ true) where
    of-pairs : ((k : ℕ) → suc k < length x → pair_ok (get_or x k 0) (get_or x (suc k) 0) ≡ true) → parted true x ≡ true
    of-pairs f =
        let s = stands-in true (get_or x (length x - 1) 0) last in
        parted-at x h (record {
          from = from;
          first = λ e. first;
          last = s.1 refl;
          doubled = λ i l. pair-single (get_or x i 0) (get_or x (suc i) 0) (f i l);
        })
      where
        from : (i : ℕ) → i < length x → InCode (get_or x i 0)
        from i l = go (leb (suc (suc i)) (length x)) refl
          where
            go : (t : Bool) → leb (suc (suc i)) (length x) ≡ t → InCode (get_or x i 0)
            go true e = byte-in (get_or x i 0) (both (is_code_byte (get_or x i 0)) _ (f i (leb-true (suc (suc i)) (length x) e))).0
            go false e =
                let m = leb-false (suc (suc i)) (length x) e in
                let k : length x - 1 ≡ i = omega arith in
                rw k at (stands-in true (get_or x (length x - 1) 0) last).0

    module _ (w : window_ok x 0 ≡ true) where
      cover : (n : ℕ) → length x ≤ n + 9 → ((k : ℕ) → k < n → suc k < length x → pair_ok (get_or x k 0) (get_or x (suc k) 0) ≡ true)
          → window_ok x (length x - 9) ≡ true → parted true x ≡ true
      cover n m f v = of-pairs pick-window
        where
          pick-window : (k : ℕ) → suc k < length x → pair_ok (get_or x k 0) (get_or x (suc k) 0) ≡ true
          pick-window k l = go (leb (length x - 9) k) refl
            where
              go : (t : Bool) → leb (length x - 9) k ≡ t → pair_ok (get_or x k 0) (get_or x (suc k) 0) ≡ true
              go true e = let b = leb-true (length x - 9) k e in window-pair x (length x - 9) k v (omega arith) (omega arith)
              go false e = let b = leb-false (length x - 9) k e in f k (omega arith) l

      pub two-windows : (t : Bool) → length x ≤ 17 → t ≡ window_ok x (length x - 9) → t ≡ parted true x
      two-windows t m e =
          e ∙ same_test (window_ok x (length x - 9)) (parted true x)
          (cover 8 (omega arith) (λ k b l. window-pair x 0 k w (omega arith) (omega arith)))
          (λ p. window-of x (parts_at x h p) (length x - 9) (omega arith))

      pub three-windows : (t : Bool) → length x ≤ 24 → window_ok x 8 ≡ true → t ≡ window_ok x (length x - 9) → t ≡ parted true x
      three-windows t m v e =
          e ∙ same_test (window_ok x (length x - 9)) (parted true x) (cover 16 (omega arith) middle)
          (λ p. window-of x (parts_at x h p) (length x - 9) (omega arith))
        where
          middle : (k : ℕ) → k < 16 → suc k < length x → pair_ok (get_or x k 0) (get_or x (suc k) 0) ≡ true
          middle k b l = go (leb 8 k) refl
            where
              go : (t : Bool) → leb 8 k ≡ t → pair_ok (get_or x k 0) (get_or x (suc k) 0) ≡ true
              go true q = let a = leb-true 8 k q in window-pair x 8 k v (omega arith) (omega arith)
              go false q = let a = leb-false 8 k q in window-pair x 0 k w (omega arith) (omega arith)
