-- The rows and bytes that 16,384 bytes of input can ask for: 2,730 rows, and 16,379 bytes of values. Assumes nothing.
use Rattle.std.specs.Prelude.{◌≡◌, refl, Bool, true, false, List, [], ◌∷◌, ℕ, suc, ◌+◌, ◌*◌, ◌≤◌, eqb, leb, length}
use Rattle.std.proofs.Common.{ap, ◌∙◌, arith, leb-true, leb-false, length-drop}
use Rattle.basis.specs.Pick.{pick}
use Rattle.shelf.specs.declared.Line.TheVariants.{Bad}
use Rattle.shelf.specs.Lines.{on_first, lines, says, is_bad_line, value_of, first_bad_line}
use Rattle.shelf.proofs.SaysLaws.{says-short}
use Rattle.whole.specs.Answer.{input_most}

-- the bytes of lines with their line ends
unfoldable pub line_bytes : List (List ℕ) → ℕ
line_bytes [] = 0
line_bytes (l ∷ ls) = suc (length l) + line_bytes ls

-- the bytes of the lines' values
unfoldable pub value_bytes : List (List ℕ) → ℕ
value_bytes [] = 0
value_bytes (l ∷ ls) = length (value_of l) + value_bytes ls

on-first : (c : ℕ) (ls : List (List ℕ)) (n : ℕ) → line_bytes ls ≤ n + 1 → line_bytes (on_first c ls) ≤ n + 2
unfolding line_bytes on_first
on-first c [] n h = omega arith
on-first c (l ∷ ls) n h = omega arith

lines-size : (s : List ℕ) → line_bytes (lines s) ≤ length s + 1
unfolding line_bytes lines
lines-size [] = omega arith
lines-size (c ∷ s) = go (eqb c 10) (lines-size s)
  where
    go : (t : Bool) → line_bytes (lines s) ≤ length s + 1 → line_bytes (pick t ([] ∷ lines s) (on_first c (lines s))) ≤ suc (length s) + 1
    go true h = omega arith
    go false h = omega (arith, on-first c (lines s) (length s) h)

good_length : (l : List ℕ) → is_bad_line (says l) ≡ false → 5 ≤ length l
good_length l h = go (leb 5 (length l)) refl
  where
    go : (t : Bool) → leb 5 (length l) ≡ t → 5 ≤ length l
    go true e = leb-true 5 (length l) e
    go false e =
        let b : Bad ≡ says l = says-short l (leb-false 5 (length l) e) in
        let z : true ≡ false = ap is_bad_line b ∙ h in
        let y : ◌≡◌ {A = ℕ} 0 1 = cc in absurd (omega arith)

good-sizes : (n : ℕ) (ls : List (List ℕ)) → first_bad_line n ls ≡ 0 → value_bytes ls + 6 * length ls ≡ line_bytes ls
unfolding line_bytes value_bytes first_bad_line
good-sizes n [] h = refl
good-sizes n (l ∷ ls) h = go (is_bad_line (says l)) refl h (λ k. good-sizes (suc n) ls k)
  where
    go : (t : Bool) → is_bad_line (says l) ≡ t → pick t (suc n) (first_bad_line (suc n) ls) ≡ 0 → (first_bad_line (suc n) ls ≡ 0
        → value_bytes ls + 6 * length ls ≡ line_bytes ls)
        → length (value_of l) + value_bytes ls + 6 * suc (length ls) ≡ suc (length l) + line_bytes ls
    go true e g k = absurd (omega arith)
    go false e g k = let r = k g in let m = good_length l e in simp length-drop (omega arith)

at_most : (ls : List (List ℕ)) → value_bytes ls + 6 * length ls ≤ 16385 → value_bytes ls ≤ 16379
unfolding value_bytes
at_most [] k = omega arith
at_most (l ∷ ls) k = omega arith

-- the views, the map and the data that the program lends hold every accepted input
pub rooms-hold : (s : List ℕ) → length s ≤ input_most → first_bad_line 0 (lines s) ≡ 0 → (length (lines s) ≤ 2730) × (value_bytes (lines s) ≤ 16379)
rooms-hold s h g =
    let a = lines-size s in
    let b = good-sizes 0 (lines s) g in
    (omega arith, at_most (lines s) (omega arith))
