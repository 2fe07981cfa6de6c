-- A value conforms exactly where it is an element code, as the grammar says it. Assumes nothing.
use mathlib.Core.Path.{◌≡◌, refl, sym, ap, ◌∙◌}
use mathlib.Core.Logic.{◌≢◌, ◌⊎◌, inl, inr}
use mathlib.Core.Bool.{Bool, true, false, true≢false, not, ◌&&◌, ◌||◌}
use mathlib.Core.List.{List, [], ◌∷◌}
use Prim.Native.Nat.{ℕ, zero, suc, ◌-◌, ◌≤◌, ◌<◌}
use native.Mathlib.Omega.{arith}
use borrow.Author.Tests.{leb-true, le-leb, eqb-true, eqb-false, eq-eqb, ne_eqb, not-true}
use lib.Dec.{leb}
use lib.ListN.{length, get_or}
use Rattle.codes.specs.Grammar.{is_letter, is_digit, hyphen_byte, ElementCode}
use Rattle.codes.specs.Recogniser.{is_hyphen, is_code_byte, may_stand, parted, conforms}
use Rattle.codes.proofs.Laws.{both}

-- a letter, a digit or a hyphen
abbrev pub InCode : ℕ → Type 0
InCode b = (is_letter b ≡ true) ⊎ ((is_digit b ≡ true) ⊎ (b ≡ hyphen_byte))

pub either : (s t : Bool) → (s || t) ≡ true → (s ≡ true) ⊎ (t ≡ true)
either true t h = inl refl
either false t h = inr h

pub or_yes : (s : Bool) → (s || true) ≡ true
or_yes true = refl
or_yes false = refl

-- ---- one byte: what may stand, as the grammar says it

module _ (b : ℕ) where
  pub byte-in : is_code_byte b ≡ true → InCode b
  unfolding is_code_byte
  byte-in h = go (either (is_hyphen b) (is_letter b || is_digit b) h)
    where
      word : (is_letter b ≡ true) ⊎ (is_digit b ≡ true) → InCode b
      word (inl l) = inl l
      word (inr d) = inr (inl d)

      go : (is_hyphen b ≡ true) ⊎ ((is_letter b || is_digit b) ≡ true) → InCode b
      go (inl e) = inr (inr (eqb-true b 45 e))
      go (inr w) = word (either (is_letter b) (is_digit b) w)

  pub in-byte : InCode b → is_code_byte b ≡ true
  unfolding is_code_byte
  in-byte (inl l) = rw l (or_yes (is_hyphen b))
  in-byte (inr (inl d)) = rw (d, or_yes (is_letter b)) (or_yes (is_hyphen b))
  in-byte (inr (inr e)) = rw (eq-eqb b 45 e)

module _ (after : Bool) (b : ℕ) where
  pub stands-in : may_stand after b ≡ true → InCode b × (after ≡ true → b ≢ hyphen_byte)
  unfolding may_stand
  stands-in h =
      let f = both (is_code_byte b) (not (after && is_hyphen b)) h in
      (byte-in b f.0, λ a e. true≢false (sym f.1 ∙ (λ i. not (a i && eq-eqb b 45 e i))))

  pub in-stands : InCode b → (after ≡ true → b ≢ hyphen_byte) → may_stand after b ≡ true
  unfolding may_stand
  in-stands c f = rw (in-byte b c) (go after refl)
    where
      go : (t : Bool) → after ≡ t → not (t && is_hyphen b) ≡ true
      go true a = rw (ne_eqb b 45 (f a))
      go false a = refl

-- ---- a text of one byte or more; `after` where it may not begin with a hyphen

pub record Parts (after : Bool) (x : List ℕ) : Type 0 where
  pub from : (i : ℕ) → i < length x → InCode (get_or x i 0)
  pub first : after ≡ true → get_or x 0 0 ≢ hyphen_byte
  pub last : get_or x (length x - 1) 0 ≢ hyphen_byte
  pub doubled : (i : ℕ) → suc i < length x → get_or x i 0 ≡ hyphen_byte → get_or x (suc i) 0 ≢ hyphen_byte

all_cons : (P : ℕ → Type 0) (b : ℕ) (x : List ℕ) → P b → ((i : ℕ) → i < length x → P (get_or x i 0)) → (i : ℕ) → i < length (b ∷ x) → P (get_or (b ∷ x) i 0)
all_cons P b x p f zero l = p
all_cons P b x p f (suc i) l = f i (omega arith)

abbrev Single : List ℕ → Type 0
Single x = (i : ℕ) → suc i < length x → get_or x i 0 ≡ hyphen_byte → get_or x (suc i) 0 ≢ hyphen_byte

single-cons : (b c : ℕ) (y : List ℕ) → (b ≡ hyphen_byte → c ≢ hyphen_byte) → Single (c ∷ y) → Single (b ∷ c ∷ y)
single-cons b c y h f zero l = h
single-cons b c y h f (suc i) l = f i (omega arith)

last_more : (b c : ℕ) (y : List ℕ) → get_or (b ∷ c ∷ y) (length (b ∷ c ∷ y) - 1) 0 ≡ get_or (c ∷ y) (length (c ∷ y) - 1) 0
last_more b c y =
    let e : length (b ∷ c ∷ y) - 1 ≡ suc (length (c ∷ y) - 1) = omega arith in
    ap (λ (k : ℕ). get_or (b ∷ c ∷ y) k 0) e

pub parts-of : (after : Bool) (b : ℕ) (x : List ℕ) → parted after (b ∷ x) ≡ true → Parts after (b ∷ x)
unfolding parted
parts-of after b [] h =
    let f = both (may_stand after b) (not (is_hyphen b)) h in
    let s = stands-in after b f.0 in
    record {
      from = all_cons InCode b [] s.0 (λ i l. absurd (omega arith));
      first = s.1;
      last = eqb-false b 45 (not-true _ f.1);
      doubled = λ i l. absurd (omega arith);
    }
parts-of after b (c ∷ y) h =
    let f = both (may_stand after b) (parted (is_hyphen b) (c ∷ y)) h in
    let s = stands-in after b f.0 in
    let p = parts-of (is_hyphen b) c y f.1 in
    record {
      from = all_cons InCode b (c ∷ y) s.0 p.from;
      first = s.1;
      last = λ e. p.last (sym (last_more b c y) ∙ e);
      doubled = single-cons b c y (λ e. p.first (eq-eqb b 45 e)) p.doubled;
    }

pub of_parts : (after : Bool) (b : ℕ) (x : List ℕ) → Parts after (b ∷ x) → parted after (b ∷ x) ≡ true
unfolding parted
of_parts after b [] p = rw (in-stands after b (p.from 0 (omega arith)) p.first, ne_eqb b 45 p.last)
of_parts after b (c ∷ y) p =
    let q : Parts (is_hyphen b) (c ∷ y) = record {
      from = λ i l. p.from (suc i) (omega arith);
      first = λ e. p.doubled 0 (omega arith) (eqb-true b 45 e);
      last = λ e. p.last (last_more b c y ∙ e);
      doubled = λ i l. p.doubled (suc i) (omega arith);
    } in
    rw (in-stands after b (p.from 0 (omega arith)) p.first) (of_parts (is_hyphen b) c y q)

-- ---- both ways

pub conforms-code : (x : List ℕ) → conforms x ≡ true → ElementCode x
unfolding conforms
conforms-code x h = go x h
  where
    go : (x : List ℕ) → (leb 4 (length x) && (leb (length x) 24 && parted true x)) ≡ true → ElementCode x
    go [] h = absurd (true≢false (sym h))
    go (b ∷ x) h =
        let f = both (leb 4 (length (b ∷ x))) (leb (length (b ∷ x)) 24 && parted true (b ∷ x)) h in
        let g = both (leb (length (b ∷ x)) 24) (parted true (b ∷ x)) f.1 in
        let p = parts-of true b x g.1 in
        record {
          least = leb-true 4 (length (b ∷ x)) f.0;
          most = leb-true (length (b ∷ x)) 24 g.0;
          from = p.from;
          first = p.first refl;
          last = p.last;
          doubled = p.doubled;
        }

pub code-conforms : (x : List ℕ) → ElementCode x → conforms x ≡ true
unfolding conforms
code-conforms [] c = absurd (empty c.least)
  where
    empty : 4 ≤ 0 → ⊥
    empty h = omega arith
code-conforms (b ∷ x) c =
    rw (le-leb 4 (length (b ∷ x)) c.least, le-leb (length (b ∷ x)) 24 c.most)
    (of_parts true b x (record { from = c.from; first = λ e. c.first; last = c.last; doubled = c.doubled }))
