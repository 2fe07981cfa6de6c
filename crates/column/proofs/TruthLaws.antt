-- Zeros after a short value and the first bytes of a long one, by words; what makes a view true. Assumes nothing.
use Rattle.std.specs.Prelude.{◌≡◌, refl, Bool, true, false, ◌&&◌, List, [], ◌∷◌, ℕ, zero, suc, ◌+◌, ◌-◌, ◌*◌, ◌/◌, ◌^◌, ◌≤◌, ◌<◌, eqb, take, drop}
use Rattle.std.proofs.Math.Path.{sym}
use Rattle.std.proofs.Common.{ap, ◌∙◌, add-zero, mul-suc, add_comm, mul_comm, mul-zero, arith, le-leb, eq-eqb, ne_eqb, eqb-true, drop-drop, pow_pos}
use Rattle.std.proofs.lemmas.Bool.{lt-leb, eqb-false}
use Rattle.std.proofs.Math.Dec.{eqb-suc-zero}
use Rattle.std.proofs.Math.ListN.{length, length-drop}
use Rattle.std.proofs.Math.Seq.{length-take-le}
use Rattle.std.proofs.Math.Pow.{high}
use Rattle.basis.specs.Pick.{pick}
use Rattle.words.specs.Words.{Bytes, word_at, dec}
use Rattle.words.specs.WordLaws.{word_split, word_lt}
use Rattle.words.specs.ListLaws.{word-dec, bytes-part}
use Rattle.order.specs.Order.{same}
use Rattle.views.specs.View.{view_size, short_most, length_of, body_of, view_at}
use Rattle.views.specs.ViewLaws.{drop-take, body_at, prefix-at}
use Rattle.column.specs.declared.Kind.{Kind}
use Rattle.column.specs.Lent.{Lent}
use Rattle.column.specs.Meaning.{blocks_of, shown}
use Rattle.column.specs.Truth.{zeros, honest, reachable, of_kind, is_true}
use Rattle.column.proofs.FitLaws.{and_left, and_right}

pub eqb_same : (a b p q : ℕ) → (a ≡ b → p ≡ q) → (p ≡ q → a ≡ b) → eqb a b ≡ eqb p q
eqb_same a b p q f g = by (eqb p q) refl
  where
    by : (t : Bool) → eqb p q ≡ t → eqb a b ≡ t
    by true e = eq-eqb a b (g (eqb-true p q e))
    by false e = ne_eqb a b (λ h. eqb-false p q e (f h))

-- ---- zeros after a short value

zeros-dec : (l : List ℕ) → zeros l ≡ eqb (dec l) 0
unfolding zeros dec
zeros-dec [] = refl
zeros-dec (zero ∷ l) = zeros-dec l ∙ eqb_same (dec l) 0 (dec l * 256 + 0) 0 (λ h. omega arith) (λ h. omega arith)
zeros-dec (suc b ∷ l) = rw (eqb-suc-zero b) (sym (ne_eqb (dec l * 256 + suc b) 0 (λ h. omega arith)))

-- a number without its low bytes
pub word-high : (l : List ℕ) (i d m : ℕ) → Bytes l → word_at l i (d + m) / 2 ^ (8 * d) ≡ word_at l (i + d) m
word-high l i d m hb =
    rw (word_split l i d m, add_comm (word_at l i d) (2 ^ (8 * d) * word_at l (i + d) m), mul_comm (2 ^ (8 * d)) (word_at l (i + d) m))
    (high (word_at l (i + d) m) (8 * d) (word_lt l i d hb))

more : (p y a : ℕ) → 0 < p → (y ≡ 0 → ⊥) → a + p * y ≡ 0 → ⊥
more p zero a h z e = z refl
more p (suc y) a h z e = let f : a + (p * y + p) ≡ 0 = rw (mul-suc p y) at e in omega arith

module _ (vs : List ℕ) (r n : ℕ) where
  abbrev rest : List ℕ
  rest = drop n (body_of (view_at vs r))

  rest-is : (m : ℕ) → n + m ≡ short_most → zeros rest ≡ eqb (word_at vs (view_size * r + 4 + n) m) 0
  rest-is m e =
      rw (
        body_at vs r,
        ← e,
        drop-take n m (drop (view_size * r + 4) vs),
        drop-drop n (view_size * r + 4) vs,
        zeros-dec
            (take m (drop (view_size * r + 4 + n) vs)),
        word-dec vs (view_size * r + 4 + n) m,
      )

  pub rest-none : n ≡ short_most → true ≡ zeros rest
  unfolding word_at
  rest-none e = sym (rest-is 0 (omega arith))

  -- x and y are the four bytes and the eight bytes of the body
  module _ (hb : Bytes vs) (x y : ℕ) (ex : x ≡ word_at vs (view_size * r + 4) 4) (ey : y ≡ word_at vs (view_size * r + 4 + 4) 8) where
    pub rest-high : 4 ≤ n → n ≤ short_most → eqb (y / 2 ^ (8 * (n - 4))) 0 ≡ zeros rest
    rest-high h g = by (n - 4) (short_most - n) (omega arith) (omega arith)
      where
        by : (d m : ℕ) → d + m ≡ 8 → 4 + d ≡ n → eqb (y / 2 ^ (8 * d)) 0 ≡ zeros rest
        by d m e f =
            let place : view_size * r + 4 + n ≡ view_size * r + 4 + 4 + d = omega arith in
            let cut : y ≡ word_at vs (view_size * r + 4 + 4) (d + m) = ey ∙ ap (word_at vs (view_size * r + 4 + 4)) (sym e) in
            let top : y / 2 ^ (8 * d) ≡ word_at vs (view_size * r + 4 + 4 + d) m = rw cut (word-high vs (view_size * r + 4 + 4) d m hb) in
            rw (rest-is m (omega arith), place, top)

    pub rest-low : n < 4 → y ≡ 0 → eqb (x / 2 ^ (8 * n)) 0 ≡ zeros rest
    rest-low h z = by (4 - n) (omega arith)
      where
        by : (m : ℕ) → n + m ≡ 4 → eqb (x / 2 ^ (8 * n)) 0 ≡ zeros rest
        by m e =
            let place : view_size * r + 4 + n + m ≡ view_size * r + 4 + 4 = omega arith in
            let cut : x ≡ word_at vs (view_size * r + 4) (n + m) = ex ∙ ap (word_at vs (view_size * r + 4)) (sym e) in
            let low : x / 2 ^ (8 * n) ≡ word_at vs (view_size * r + 4 + n) m = rw cut (word-high vs (view_size * r + 4) n m hb) in
            let whole : word_at vs (view_size * r + 4 + n) (m + 8) ≡ word_at vs (view_size * r + 4 + n) m + 2 ^ (8 * m) * y = rw (ey, ← place)
            (word_split vs (view_size * r + 4 + n) m 8) in
            rw (rest-is (m + 8) (omega arith), whole, low, z, mul-zero (2 ^ (8 * m)), add-zero (word_at vs (view_size * r + 4 + n) m))

    pub rest-not : n < 4 → (y ≡ 0 → ⊥) → false ≡ zeros rest
    rest-not h z = by (4 - n) (omega arith)
      where
        by : (m : ℕ) → n + m ≡ 4 → false ≡ zeros rest
        by m e =
            let place : view_size * r + 4 + n + m ≡ view_size * r + 4 + 4 = omega arith in
            let whole : word_at vs (view_size * r + 4 + n) (m + 8) ≡ word_at vs (view_size * r + 4 + n) m + 2 ^ (8 * m) * y = rw (ey, ← place)
            (word_split vs (view_size * r + 4 + n) m 8) in
            rw (rest-is (m + 8) (omega arith), whole) (sym (ne_eqb (word_at vs (view_size * r + 4 + n) m + 2 ^ (8 * m) * y) 0
            (more (2 ^ (8 * m)) y (word_at vs (view_size * r + 4 + n) m) (pow_pos (8 * m)) z)))

-- ---- the first bytes of a long value

same-dec : (a b : List ℕ) → length a ≡ length b → Bytes a → Bytes b → eqb (dec a) (dec b) ≡ same a b
unfolding dec same
same-dec [] [] e ha hb = refl
same-dec [] (y ∷ b) e ha hb = absurd (omega arith)
same-dec (x ∷ a) [] e ha hb = absurd (omega arith)
same-dec (x ∷ a) (y ∷ b) e ha hb = by (eqb x y) refl (same-dec a b (omega arith) (λ j. ha (suc j)) (λ j. hb (suc j)))
  where
    by : (t : Bool) → eqb x y ≡ t → eqb (dec a) (dec b) ≡ same a b → eqb (dec a * 256 + x) (dec b * 256 + y) ≡ pick t (same a b) false
    by true d more = let f = eqb-true x y d in eqb_same (dec a * 256 + x) (dec b * 256 + y) (dec a) (dec b) (λ h. omega arith) (λ h. omega arith) ∙ more
    by false d more = ne_eqb (dec a * 256 + x) (dec b * 256 + y) (λ h. eqb-false x y d (omega (arith, ha 0, hb 0)))

module _ (vs : List ℕ) (r : ℕ) (x : List ℕ) where
  pub honest-short : length_of (view_at vs r) ≤ short_most → zeros (drop (length_of (view_at vs r)) (body_of (view_at vs r))) ≡ honest (view_at vs r) x
  unfolding honest
  honest-short h = rw (le-leb (length_of (view_at vs r)) short_most h)

  pub honest-long : (a b : ℕ) → a ≡ word_at vs (view_size * r + 4) 4 → b ≡ word_at x 0 4 → Bytes vs → Bytes x → view_size * r + view_size ≤ length vs → 4 ≤ length x
      → short_most < length_of (view_at vs r) → eqb a b ≡ honest (view_at vs r) x
  unfolding honest
  honest-long a b ea eb hv hx room long h =
      rw (lt-leb (length_of (view_at vs r)) short_most h, prefix-at vs r, ea, eb, word-dec vs (view_size * r + 4) 4, word-dec x 0 4)
      (same-dec (take 4 (drop (view_size * r + 4) vs)) (take 4 x) lengths (bytes-part vs (view_size * r + 4) 4 hv) (bytes-part x 0 4 hx))
    where
      lengths : length (take 4 (drop (view_size * r + 4) vs)) ≡ length (take 4 x)
      lengths = length-take-le 4 (drop (view_size * r + 4) vs) (simp length-drop (omega arith)) ∙ sym (length-take-le 4 x long)

-- ---- a true view; x is the value that it shows

module _ (l : Lent) (k : Kind) (n : ℕ) (v x : List ℕ) where
  pub untrue-reach : reachable l n v ≡ false → false ≡ is_true l k n v
  unfolding is_true
  untrue-reach r = rw r

  pub untrue-honest : x ≡ shown (blocks_of l n) v → reachable l n v ≡ true → honest v x ≡ false → false ≡ is_true l k n v
  unfolding is_true
  untrue-honest e r h = rw (r, ← e, h)

  pub true-kind : x ≡ shown (blocks_of l n) v → reachable l n v ≡ true → honest v x ≡ true → of_kind k x ≡ is_true l k n v
  unfolding is_true
  true-kind e r h = rw (r, ← e, h)

module _ (l : Lent) (k : Kind) (n : ℕ) (v : List ℕ) (t : is_true l k n v ≡ true) where
  -- what a true view is
  pub true-reach : reachable l n v ≡ true
  unfolding is_true
  true-reach = and_left (reachable l n v) (honest v (shown (blocks_of l n) v) && of_kind k (shown (blocks_of l n) v)) t

  pub true_of : of_kind k (shown (blocks_of l n) v) ≡ true
  unfolding is_true
  true_of =
      and_right (honest v (shown (blocks_of l n) v)) (of_kind k (shown (blocks_of l n) v))
      (and_right (reachable l n v) (honest v (shown (blocks_of l n) v) && of_kind k (shown (blocks_of l n) v)) t)
