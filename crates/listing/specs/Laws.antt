-- Laws of texts that are put, of digits, and of a value's text byte by byte. Assumes nothing.
use Rattle.std.specs.Prelude.{◌≡◌, refl, Bool, true, false, List, [], ◌∷◌, ◌++◌, ℕ, zero, suc, ◌+◌, ◌/◌, ◌%◌, ◌^◌, ◌≤◌, ◌<◌, ltb, length, get_or, take, set}
use Rattle.std.proofs.Common.{sym, ap, ◌∙◌, append_assoc, append-nil, add-one, arith, lt-ltb, le-ltb, ltb-true, ltb-false, lit≤, length-append, length-set, length-take, drop_of_length-le, take-suc-set, take-suc, drop-cons}
use Rattle.basis.specs.Pick.{pick}
use Rattle.listing.specs.Text.{digits, decimal, more_text, bytes_text, text_from, item_text, number_line}
use Rattle.listing.specs.Put.{Put, HoldsText}

-- one text after another
pub put-put : {a b c : List ℕ} {at r q : ℕ} {t u : List ℕ} → Put a b at r t → Put b c r q u → Put a c at q (t ++ u)
put-put {a} {b} {c} {at} {r} {q} {t} {u} p s =
    record {
      ends = simp length-append (omega (arith, p.ends, s.ends));
      text = s.text ∙ (ap (λ (l : List ℕ). l ++ u) p.text ∙ append_assoc (take at a) t u);
      same = s.same ∙ p.same;
    }

-- a byte is set
pub put_one : (l : List ℕ) (at x : ℕ) → at < length l → Put l (set l at x) at (at + 1) (x ∷ [])
put_one l at x h = record { ends = refl; text = rw add-one (take-suc-set l at x h); same = length-set l at x }

-- nothing is put
pub put-nothing : (l : List ℕ) (at : ℕ) → Put l l at at []
put-nothing l at = record { ends = omega arith; text = sym (append-nil (take at l)); same = refl }

-- from the start of the buffer
pub put_holds : {a b : List ℕ} {r : ℕ} {t : List ℕ} → Put a b 0 r t → length t ≤ length a → HoldsText b r t
put_holds {a} {b} {r} {t} p h =
    let low : r ≤ length b = omega (arith, p.ends, p.same) in
    record { text = p.text; low = low; counts = simp length-take (omega arith) }

-- ---- digits

digits-enough : (f g n : ℕ) → n < f → n < g → digits f n ≡ digits g n
unfolding digits
digits-enough zero g n h k = absurd (omega arith)
digits-enough (suc f) zero n h k = absurd (omega arith)
digits-enough (suc f) (suc g) n h k = go (ltb n 10) refl (λ m. digits-enough f g (n / 10) (omega arith) (omega arith))
  where
    go : (t : Bool) → ltb n 10 ≡ t → (10 ≤ n → digits f (n / 10) ≡ digits g (n / 10)) → pick t [] (digits f (n / 10)) ++ (48 + n % 10) ∷ []
        ≡ pick t [] (digits g (n / 10)) ++ (48 + n % 10) ∷ []
    go true e later = refl
    go false e later = ap (λ (l : List ℕ). l ++ (48 + n % 10) ∷ []) (later (ltb-false n 10 e))

pub decimal-one : (n : ℕ) → n < 10 → decimal n ≡ (48 + n) ∷ []
unfolding decimal digits
decimal-one n h = let e : n % 10 ≡ n = omega arith in rw (lt-ltb n 10 h, e)

pub decimal-more : (n : ℕ) → 10 ≤ n → decimal n ≡ decimal (n / 10) ++ (48 + n % 10) ∷ []
unfolding decimal digits
decimal-more n h = rw (le-ltb n 10 h) (ap (λ (l : List ℕ). l ++ (48 + n % 10) ∷ []) (digits-enough n (suc (n / 10)) (n / 10) (omega arith) (omega arith)))

pub decimal-length : (k n : ℕ) → n < 10 ^ suc k → length (decimal n) ≤ suc k
decimal-length zero n h = rw (decimal-one n (omega arith)) (lit≤ tt)
decimal-length (suc k) n h = go (ltb n 10) refl (decimal-length k (n / 10) (omega arith))
  where
    go : (t : Bool) → ltb n 10 ≡ t → length (decimal (n / 10)) ≤ suc k → length (decimal n) ≤ suc (suc k)
    go true e later = rw (decimal-one n (ltb-true n 10 e)) (omega arith)
    go false e later = rw (decimal-more n (ltb-false n 10 e)) (simp length-append (omega arith))

pub decimal-fits : (n : ℕ) → n < 18446744073709551616 → length (decimal n) ≤ 20
decimal-fits n h = decimal-length 19 n (omega arith)

-- ---- a value's text

pub item-first : (b : ℕ) → item_text 0 b ≡ decimal b
unfolding item_text
item-first b = refl

pub item-later : (k b : ℕ) → (k ≡ 0 → ⊥) → item_text k b ≡ (44 ∷ []) ++ ((32 ∷ []) ++ decimal b)
unfolding item_text
item-later zero b h = absurd (h refl)
item-later (suc k) b h = refl

pub item-length : (k b : ℕ) → b < 256 → length (item_text k b) ≤ 5
unfolding item_text
item-length zero b h = omega (arith, decimal-length 2 b (omega arith))
item-length (suc k) b h = omega (arith, decimal-length 2 b (omega arith))

pub text-more : (x : List ℕ) (k : ℕ) → k < length x → text_from x k ≡ item_text k (get_or x k 0) ++ text_from x (k + 1)
unfolding text_from item_text bytes_text more_text
text-more [] k h = absurd (omega arith)
text-more (b ∷ x) zero h = refl
text-more (b ∷ x) (suc k) h = rw (add-one (suc k), drop-cons x k 0 (omega arith))

pub text-end : (x : List ℕ) (k : ℕ) → 0 < k → length x ≤ k → text_from x k ≡ []
unfolding text_from more_text
text-end x zero h g = absurd (omega arith)
text-end x (suc k) h g = rw (drop_of_length-le x g)

-- a part that is put, and what is left
pub rest_more : (x : List ℕ) (k : ℕ) {a b : List ℕ} {w r : ℕ} (all : List ℕ) → k < length x → take w a ++ text_from x k ≡ all
    → Put a b w r (item_text k (get_or x k 0)) → take r b ++ text_from x (k + 1) ≡ all
rest_more x k {a} {b} {w} {r} all h e p =
    ap (λ (l : List ℕ). l ++ text_from x (k + 1)) p.text ∙ (append_assoc (take w a) (item_text k (get_or x k 0)) (text_from x (k + 1))
    ∙ (ap (λ (l : List ℕ). take w a ++ l) (sym (text-more x k h)) ∙ e))

-- the first bytes of a list, put one by one
pub put_next : (s : List ℕ) (k : ℕ) {a b : List ℕ} {at : ℕ} → k < length s → Put a b at (at + k) (take k s) → at + k < length b
    → Put a (set b (at + k) (get_or s k 0)) at (at + (k + 1)) (take (k + 1) s)
put_next s k {a} {b} {at} h p g =
    let e : at + (k + 1) ≡ at + k + 1 = omega arith in
    rw (e, add-one k, take-suc s k 0 h) (put-put p (put_one b (at + k) (get_or s k 0) g))

pub line-fits : (name : List ℕ) (n : ℕ) → n < 18446744073709551616 → length (number_line name n) ≤ length name + 21
unfolding number_line
line-fits name n h = simp length-append (omega (arith, decimal-fits n h))

pub one-length : (n : ℕ) → n < 10 → length (decimal n) ≡ 1
one-length n h = rw (decimal-one n h)

pub more-length : (n : ℕ) → 10 ≤ n → length (decimal n) ≡ length (decimal (n / 10)) + 1
more-length n h = rw (decimal-more n h) (simp length-append)
