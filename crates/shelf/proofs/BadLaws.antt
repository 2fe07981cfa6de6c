-- How many lines a text has, and its first bad line, as a search over the lines finds it. Assumes nothing.
use Rattle.std.specs.Prelude.{◌≡◌, refl, Bool, true, false, not, cond, List, [], ◌∷◌, ℕ, suc, ◌+◌, ◌≤◌, ltb, eqb, Option, Some, None, length}
use Rattle.std.proofs.Common.{sym, ap, ◌∙◌, arith, ltb-true, ltb-false, lt-ltb, le-ltb}
use Rattle.std.specs.List.{position_or_len}
use Rattle.basis.specs.Pick.{pick}
use Rattle.shelf.specs.Lines.{on_first, lines, says, is_bad_line, first_bad_line}

on-first-few : (c : ℕ) (ls : List (List ℕ)) → length (on_first c ls) ≤ length ls + 1
unfolding on_first
on-first-few c [] = omega arith
on-first-few c (l ∷ ls) = omega arith

-- no more lines than bytes
pub lines_few : (s : List ℕ) → length (lines s) ≤ length s
unfolding lines
lines_few [] = omega arith
lines_few (c ∷ s) = go (eqb c 10) (lines_few s)
  where
    go : (t : Bool) → length (lines s) ≤ length s → length (pick t ([] ∷ lines s) (on_first c (lines s))) ≤ suc (length s)
    go true h = omega arith
    go false h = omega (arith, on-first-few c (lines s))

abbrev pub bad_in : List ℕ → Bool
bad_in l = is_bad_line (says l)

abbrev pub good_lines : List (List ℕ) → ℕ
good_lines ls = position_or_len bad_in ls

-- what a search for the first bad line answers
abbrev pub searched : List (List ℕ) → Option ℕ
searched ls = cond (ltb (good_lines ls) (length ls)) (Some (good_lines ls)) None

-- that line's number, after n lines
abbrev pub numbered : ℕ → Option ℕ → ℕ
numbered n (Some k) = n + k + 1
numbered n None = 0

pub bad_place : (n : ℕ) (ls : List (List ℕ)) (r : Option ℕ) → r ≡ searched ls → numbered n r ≡ first_bad_line n ls
unfolding first_bad_line
bad_place n [] r e = rw e
bad_place n (l ∷ ls) r e = go (λ q d. bad_place (suc n) ls q d) (bad_in l) e
  where
    go : ((q : Option ℕ) → q ≡ searched ls → numbered (suc n) q ≡ first_bad_line (suc n) ls) → (t : Bool) → r ≡ cond (ltb (cond (not t) (1 + good_lines ls) 0) (suc (length ls))) (Some (cond (not t) (1 + good_lines ls) 0)) None
        → numbered n r ≡ pick t (suc n) (first_bad_line (suc n) ls)
    go later true e =
        let s : r ≡ Some 0 = rw (lt-ltb 0 (suc (length ls)) (omega arith)) at e in
        let k : n + 0 + 1 ≡ suc n = omega arith in ap (numbered n) s ∙ k
    go later false e = by (ltb (good_lines ls) (length ls)) refl
      where
        by : (u : Bool) → ltb (good_lines ls) (length ls) ≡ u → numbered n r ≡ first_bad_line (suc n) ls
        by true q =
            let h = ltb-true (good_lines ls) (length ls) q in
            let s : r ≡ Some (1 + good_lines ls) = rw (lt-ltb (1 + good_lines ls) (suc (length ls)) (omega arith)) at e in
            let k : n + (1 + good_lines ls) + 1 ≡ suc n + good_lines ls + 1 = omega arith in
            ap (numbered n) s ∙ (k ∙ later (Some (good_lines ls)) (rw q))
        by false q =
            let h = ltb-false (good_lines ls) (length ls) q in
            let s : r ≡ None = rw (le-ltb (1 + good_lines ls) (suc (length ls)) (omega arith)) at e in
            ap (numbered n) s ∙ later None (rw q)
