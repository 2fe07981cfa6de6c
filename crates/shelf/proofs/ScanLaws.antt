-- The first place of a byte, as a walk over a text's bytes finds it, and the line up to it. Assumes nothing.
use Rattle.std.specs.Prelude.{◌≡◌, ◌≢◌, refl, Bool, true, false, List, [], ◌∷◌, ℕ, ◌+◌, ◌-◌, ◌≤◌, ◌<◌, Option, Some, None, MatchOption, length, take, drop}
use Rattle.std.proofs.Common.{sym, ap, ◌∙◌, arith, add-one, length-drop, drop_of_length-le, eq-eqb, ne_eqb}
use Rattle.std.proofs.Math.Seq.{take_all}
use Rattle.std.proofs.lemmas.Iterator.{index_from_first}
use Rattle.std.specs.List.{AllWithin, HoldsAt, PartBy}
use Rattle.std.specs.Option.{unwrap_or}
use Rattle.shelf.specs.Scan.{index_of, index_after}
use Rattle.shelf.specs.Lines.{lines}
use Rattle.shelf.specs.LineLaws.{first-line}

hit : (b x : ℕ) (xs : List ℕ) → x ≡ b → index_of b (x ∷ xs) ≡ 0
unfolding index_of
hit b x xs h = rw (eq-eqb x b h)

miss : (b x : ℕ) (xs : List ℕ) → x ≢ b → index_of b (x ∷ xs) ≡ index_of b xs + 1
unfolding index_of
miss b x xs h = rw (ne_eqb x b h, add-one (index_of b xs))

none : (b : ℕ) → index_of b [] ≡ 0
unfolding index_of
none b = refl

-- what a walk says: the first b of a text, or none
abbrev pub First : ℕ → List ℕ → Option ℕ → Type 0
First b xs r = MatchOption r (AllWithin (λ (x : ℕ). x ≢ b) xs 0 (length xs)) (λ i. (i < length xs) × HoldsAt (λ (x : ℕ). x ≡ b) xs i × AllWithin (λ (x : ℕ). x ≢ b) xs 0 i)

place : (b : ℕ) (xs : List ℕ) (r : Option ℕ) → First b xs r → index_of b xs ≡ unwrap_or r (length xs)
place b xs r m = index_from_first (index_of b) (λ x. x ≡ b) (λ x. x ≢ b) (none b) (hit b) (miss b) xs r m

-- what `get` answers of the part from n on, or an empty part where there is none
pub part_from : {B : Type 0} (now : B → List ℕ) (s : List ℕ) (n : ℕ) (r : Option B) (d : B) → now d ≡ []
    → PartBy now s n (length s) r → now (unwrap_or r d) ≡ drop n s
part_from now s n None d z m = let h : length s ≤ n = omega arith in z ∙ sym (drop_of_length-le s h)
part_from now s n (Some x) d z m = m.0.2 ∙ take_all (length s - n) (drop n s) (simp length-drop (omega arith))

-- the first line, and the lines after its line end
pub line-off : (s : List ℕ) (e : ℕ) (r : Option ℕ) (t : List ℕ) → 0 < length s → First 10 s r → e ≡ unwrap_or r (length s) → t ≡ drop (e + 1) s
    → lines s ≡ take e s ∷ lines t
line-off s e r t h m p q =
    let i : index_of 10 s ≡ e = place 10 s r m ∙ sym p in
    let l = rw (← add-one (index_of 10 s), i) at (first-line s h) in
    l ∙ ap (λ (z : List ℕ). take e s ∷ lines z) (sym q)
