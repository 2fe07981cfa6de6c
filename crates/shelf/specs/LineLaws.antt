-- A text's first line and the rest; the first bad line. Assumes nothing.
use Rattle.std.specs.Prelude.{◌≡◌, refl, Bool, true, List, [], ◌∷◌, ℕ, suc, ◌+◌, ◌-◌, ◌≤◌, ◌<◌, eqb, ltb, take, drop}
use Rattle.std.proofs.Common.{sym, ◌∙◌, arith, ltb-true, ltb-false, length-drop, drop_of_length-le, drop-drop}
use Rattle.std.proofs.Math.Path.{ap}
use Rattle.std.proofs.Math.Bool.{false}
use Rattle.std.proofs.Math.Numerals.{add-one}
use Rattle.std.proofs.Math.ListN.{length, length-take}
use Rattle.std.proofs.Math.Seq.{take-length}
use Rattle.basis.specs.Pick.{pick}
use Rattle.shelf.specs.Scan.{index_of, index_after, slice}
use Rattle.shelf.specs.Lines.{on_first, lines, code_mark, null_mark, says, is_bad_line, first_bad_line}
use Rattle.shelf.specs.declared.Line.TheVariants.{Code, Null, Bad}
use Rattle.order.specs.Order.{same}
use Rattle.order.proofs.OrderLaws.{same-no}

-- the first line, and the lines after its line end
pub first-line : (l : List ℕ) → 0 < length l → lines l ≡ take (index_of 10 l) l ∷ lines (drop (suc (index_of 10 l)) l)
unfolding lines on_first index_of
first-line [] h = absurd (omega arith)
first-line (c ∷ []) h = go (eqb c 10)
  where
    go : (t : Bool) → pick t ([] ∷ []) ((c ∷ []) ∷ []) ≡ take (index_after t 0) (c ∷ []) ∷ lines (drop (suc (index_after t 0)) (c ∷ []))
    go true = refl
    go false = refl
first-line (c ∷ d ∷ u) h = go (eqb c 10) (first-line (d ∷ u) (omega arith))
  where
    go : (t : Bool) → lines (d ∷ u) ≡ take (index_of 10 (d ∷ u)) (d ∷ u) ∷ lines (drop (suc (index_of 10 (d ∷ u))) (d ∷ u))
        → pick t ([] ∷ lines (d ∷ u)) (on_first c (lines (d ∷ u))) ≡ take (index_after t (index_of 10 (d ∷ u))) (c ∷ d ∷ u) ∷ lines
        (drop (suc (index_after t (index_of 10 (d ∷ u)))) (c ∷ d ∷ u))
    go true e = refl
    go false e = ap (on_first c) e

drop-next : (s : List ℕ) (e r : ℕ) → ((e < length s) → r ≡ e + 1) → ((length s ≤ e) → r ≡ e) → drop (e + 1) s ≡ drop r s
drop-next s e r f g = go (ltb e (length s)) refl
  where
    go : (t : Bool) → ltb e (length s) ≡ t → drop (e + 1) s ≡ drop r s
    go true t = ap (λ (k : ℕ). drop k s) (sym (f (ltb-true e (length s) t)))
    go false t =
        let l : length s ≤ e = ltb-false e (length s) t in
        let k : length s ≤ e + 1 = omega arith in
        drop_of_length-le s k ∙ sym (ap (λ (k : ℕ). drop k s) (g l) ∙ drop_of_length-le s l)

-- the line from `at` to e, and the lines after it
pub line_first : (s : List ℕ) (at e : ℕ) → at < length s → e ≡ at + index_of 10 (slice at (length s) s) → lines (drop at s) ≡ take (e - at) (drop at s)
    ∷ lines (drop (e + 1) s)
unfolding slice
line_first s at e h p =
    let i = index_of 10 (drop at s) in
    let q : e ≡ at + i = p ∙ ap (λ (l : List ℕ). at + index_of 10 (drop at l)) (take-length s) in
    let d : i ≡ e - at = omega arith in
    let n : at + suc i ≡ e + 1 = omega arith in
    let m : 0 < length (drop at s) = simp length-drop (omega arith) in
    let t : drop (suc i) (drop at s) ≡ drop (e + 1) s = drop-drop (suc i) at s ∙ ap (λ (k : ℕ). drop k s) n in
    first-line (drop at s) m ∙ λ j. take (d j) (drop at s) ∷ lines (t j)

-- the same with the next line's start
pub line-next : (s : List ℕ) (at e r : ℕ) → at < length s → e ≡ at + index_of 10 (slice at (length s) s) → ((e < length s) → r ≡ e + 1)
    → ((length s ≤ e) → r ≡ e)
    → lines (drop at s) ≡ take (e - at) (drop at s) ∷ lines (drop r s)
line-next s at e r h p f g = line_first s at e h p ∙ ap (λ (l : List ℕ). take (e - at) (drop at s) ∷ lines l) (drop-next s e r f g)

pub line-end : (s : List ℕ) (at : ℕ) → length s ≤ at → lines (drop at s) ≡ []
unfolding lines
line-end s at h = rw (drop_of_length-le s h)

module _ (n : ℕ) (l : List ℕ) (ls : List (List ℕ)) where
  pub bad-here : is_bad_line (says l) ≡ true → first_bad_line n (l ∷ ls) ≡ n + 1
  unfolding first_bad_line
  bad-here h = rw (h, add-one n)

  pub bad-later : is_bad_line (says l) ≡ false → first_bad_line n (l ∷ ls) ≡ first_bad_line (n + 1) ls
  unfolding first_bad_line
  bad-later h = rw (h, add-one n)

pub bad-none : (n : ℕ) → first_bad_line n [] ≡ 0
unfolding first_bad_line
bad-none n = refl
