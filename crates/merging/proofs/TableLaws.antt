-- Laws of the merge table: where it holds, a search answers the earliest stored row; entering a row, adding others and clearing keep it. Assumes nothing.
use mathlib.Core.Path.{◌≡◌, refl, sym, ap, subst, ◌∙◌}
use mathlib.Core.Logic.{◌≢◌, ◌⊎◌, inl, inr, ⊎_elim, by_cases}
use mathlib.Core.Bool.{Bool, true, false, true≢false, cond}
use mathlib.Core.List.{List, [], ◌∷◌, ◌++◌}
use mathlib.Core.Option.{Option, none, some}
use Prim.Native.Nat.{ℕ, zero, suc, ◌%◌, ◌≤◌, ◌<◌}
use native.Mathlib.Nat.{mod-lt}
use native.Mathlib.Decide.{ℕ_discrete}
use native.Mathlib.Omega.{arith}
use borrow.Author.Tests.{eq-eqb, ne_eqb}
use lib.Dec.{eqb}
use lib.ListN.{length, get_or, set, replicate, length-set}
use lib.Seq.{get_or-set_same, get_or-set_other}
use Rattle.merging.specs.declared.Found.{Found}
use Rattle.merging.specs.declared.Found.TheVariants.{Row, Free, Full}
use Rattle.order.specs.Order.{same}
use Rattle.order.proofs.OrderLaws.{same_self, same_true}
use Rattle.merging.specs.Earliest.{In, here, there, earliest}
use Rattle.merging.specs.Table.{search_from, Holds}
use Rattle.merging.proofs.Search.{seek-row, seek-free, seek-ext, seek-old, seek-new, never-full, filled-set, filled-zeros}

some-step : (val : ℕ → List ℕ) (x : List ℕ) (s : ℕ) (memo : List ℕ) (r : ℕ) (f : Option ℕ) → (f ≡ some r → In r memo × (val r ≡ x))
    → (b : Bool) → same (val s) x ≡ b → cond b (some s) f ≡ some r → In r (s ∷ memo) × (val r ≡ x)
some-step val x s memo r f ih true q e = let z : s ≡ r = cc in (subst (λ (u : ℕ). In u (s ∷ memo)) z here, rw (← z) (same_true (val s) x q))
some-step val x s memo r f ih false q e = (there (ih e).0, (ih e).1)

none-step : (val : ℕ → List ℕ) (x : List ℕ) (s : ℕ) (memo : List ℕ) (f : Option ℕ) → (f ≡ none → (r : ℕ) → In r memo → val r ≢ x)
    → (b : Bool) → same (val s) x ≡ b → cond b (some s) f ≡ none → (r : ℕ) → In r (s ∷ memo) → val r ≢ x
none-step val x s memo f ih true q e r i z = let w : ◌≡◌ {A = ℕ} 0 1 = cc in absurd (omega arith)
none-step val x s memo f ih false q e r here z = true≢false (sym (same_self x) ∙ ap (λ (l : List ℕ). same l x) (sym z) ∙ q)
none-step val x s memo f ih false q e r (there i) z = ih e r i z

pub earliest-some : (val : ℕ → List ℕ) (x : List ℕ) (memo : List ℕ) (r : ℕ) → earliest val x memo ≡ some r → In r memo × (val r ≡ x)
earliest-some val x [] r e = let z : ◌≡◌ {A = ℕ} 0 1 = cc in absurd (omega arith)
earliest-some val x (s ∷ memo) r e = some-step val x s memo r (earliest val x memo) (earliest-some val x memo r) (same (val s) x) refl e

pub earliest-none : (val : ℕ → List ℕ) (x : List ℕ) (memo : List ℕ) → earliest val x memo ≡ none → (r : ℕ) → In r memo → val r ≢ x
earliest-none val x [] e r i = elim i [ ]
earliest-none val x (s ∷ memo) e r i = none-step val x s memo (earliest val x memo) (earliest-none val x memo) (same (val s) x) refl e r i

abbrev pub row_of : Found → Option ℕ
row_of (Row r) = some r
row_of (Free q) = none
row_of Full = none

pub in_left : (r s : ℕ) (memo : List ℕ) → In r memo → In r (memo ++ s ∷ [])
in_left r s [] i = elim i [ ]
in_left r s (a ∷ memo) here = here
in_left r s (a ∷ memo) (there i) = there (in_left r s memo i)

pub in-new : (s : ℕ) (memo : List ℕ) → In s (memo ++ s ∷ [])
in-new s [] = here
in-new s (a ∷ memo) = there (in-new s memo)

pub in-last : (r s : ℕ) (memo : List ℕ) → In r (memo ++ s ∷ []) → In r memo ⊎ (r ≡ s)
in-last r s [] here = inr refl
in-last r s [] (there i) = elim i [ ]
in-last r s (a ∷ memo) here = inl here
in-last r s (a ∷ memo) (there i) = ⊎_elim (λ w. inl (there w)) inr (in-last r s memo i)

module _ (h : List ℕ → ℕ) (mg : ℕ → Bool) (val : ℕ → List ℕ) (t memo : List ℕ) (rows : ℕ) (g : Holds h mg val t memo rows) where
  -- entries are judged as by the number of the row with these bytes
  judged : (x : List ℕ) (hit : ℕ → Bool) → ((r : ℕ) → In r memo → hit r ≡ same (val r) x) → mg (length x) ≡ true
      → (r : ℕ) → In r memo → val r ≡ x → (p s : ℕ) → get_or t p 0 ≡ suc s → hit s ≡ eqb r s
  judged x hit agree m r i e p s q = agree s j ∙ go (same (val s) x) refl
    where
      j : In s memo
      j = g.named p s q

      go : (b : Bool) → same (val s) x ≡ b → b ≡ eqb r s
      go true z = sym (eq-eqb r s (g.apart r s i j (rw e m) (e ∙ sym (same_true (val s) x z))))
      go false z = sym (ne_eqb r s (λ w. true≢false (sym (same_self x) ∙ ap (λ (l : List ℕ). same l x) (sym e ∙ ap val w) ∙ z)))

  -- whatever tells the stored rows with these bytes from the others, the search answers the earliest
  pub finds : (x : List ℕ) (hit : ℕ → Bool) → ((r : ℕ) → In r memo → hit r ≡ same (val r) x) → mg (length x) ≡ true
      → row_of (search_from t hit (h x)) ≡ earliest val x memo
  unfolding search_from
  finds x hit agree m = go (earliest val x memo) refl
    where
      miss : (f : Found) → search_from t hit (h x) ≡ f → earliest val x memo ≡ none → row_of f ≡ none
      miss (Row r) e z =
          let w : (hit r ≡ true) × ((q : ℕ) × (get_or t q 0 ≡ suc r)) = seek-row t hit (h x % length t) (length t) r e in
          let i : In r memo = g.named w.1.0 r w.1.1 in
          absurd (earliest-none val x memo z r i (same_true (val r) x (sym (agree r i) ∙ w.0)))
      miss (Free q) e z = refl
      miss Full e z = refl

      go : (o : Option ℕ) → earliest val x memo ≡ o → row_of (search_from t hit (h x)) ≡ o
      go none e = miss (search_from t hit (h x)) refl e
      go (some r) e =
          let i : In r memo = (earliest-some val x memo r e).0 in
          let v : val r ≡ x = (earliest-some val x memo r e).1 in
          let f : search_from t (eqb r) (h (val r)) ≡ Row r = g.placed r i (rw v m) in
          ap row_of (seek-ext t hit (eqb r) (judged x hit agree m r i v) (h x % length t) (length t)
          ∙ ap (λ (l : List ℕ). search_from t (eqb r) (h l)) (sym v) ∙ f)

  -- it is the least row number of all stored rows with these bytes
  pub least : (x : List ℕ) (r : ℕ) → mg (length x) ≡ true → earliest val x memo ≡ some r → (s : ℕ) → In s memo → val s ≡ x → r ≤ s
  least x r m e s i v =
      let w : In r memo × (val r ≡ x) = earliest-some val x memo r e in
      let z : r ≡ s = g.apart r s w.0 i (rw w.1 m) (w.1 ∙ sym v) in
      omega arith

  -- there is a free place while rows are fewer than places
  pub room : (hit : ℕ → Bool) (n : ℕ) → rows < length t → search_from t hit n ≢ Full
  room hit n l = never-full t hit n (omega (arith, g.sparse))

  -- a stored row is entered at the place where the search ended
  pub entered : (x : List ℕ) (val' : ℕ → List ℕ) (hit : ℕ → Bool) (q : ℕ)
      → ((r : ℕ) → In r memo → hit r ≡ same (val r) x) → mg (length x) ≡ true
      → ((r : ℕ) → In r memo → val' r ≡ val r) → val' rows ≡ x
      → 0 < length t → search_from t hit (h x) ≡ Free q
      → Holds h mg val' (set t q (suc rows)) (memo ++ rows ∷ []) (suc rows)
  unfolding search_from
  entered x val' hit q agree m keep new l e =
      record {
        named = named';
        placed = placed';
        apart = apart';
        sparse = rw (filled-set t q rows free.1 free.0) (omega (arith, g.sparse));
        inside = inside';
      }
    where
      free : (get_or t q 0 ≡ 0) × (q < length t)
      free = seek-free t hit (h x % length t) (length t) q (mod-lt (h x) l) e

      fresh : (r : ℕ) → In r memo → val r ≢ x
      fresh = earliest-none val x memo (sym (finds x hit agree m) ∙ ap row_of e)

      named' : (p r : ℕ) → get_or (set t q (suc rows)) p 0 ≡ suc r → In r (memo ++ rows ∷ [])
      named' p r z =
          by_cases (ℕ_discrete p q)
          (λ w.
          let u : suc rows ≡ suc r = sym (get_or-set_same t q (suc rows) 0 free.1) ∙ ap (λ (k : ℕ). get_or (set t q (suc rows)) k 0) (sym w) ∙ z in
          let v : rows ≡ r = omega arith in
          subst (λ (k : ℕ). In k (memo ++ rows ∷ [])) v (in-new rows memo))
          (λ w. in_left r rows memo (g.named p r (sym (get_or-set_other t q p (suc rows) 0 w) ∙ z)))

      last : search_from (set t q (suc rows)) (eqb rows) (h x) ≡ Row rows
      last =
          rw (length-set t q (suc rows))
          (seek-new t hit q rows free.1 free.0 (λ p s u w. let a : s < rows = g.inside s (g.named p s u) in omega arith) (h x % length t) (length t) e)

      placed' : (r : ℕ) → In r (memo ++ rows ∷ []) → mg (length (val' r)) ≡ true → search_from (set t q (suc rows)) (eqb r) (h (val' r)) ≡ Row r
      placed' r i b =
          ⊎_elim
          (λ j. rw (keep r j, length-set t q (suc rows))
          (seek-old t (eqb r) q (suc rows) r free.0 (h (val r) % length t) (length t) (g.placed r j (rw (← keep r j) b))))
          (λ z. subst (λ (k : ℕ). search_from (set t q (suc rows)) (eqb k) (h (val' k)) ≡ Row k) (sym z)
          (subst (λ (l : List ℕ). search_from (set t q (suc rows)) (eqb rows) (h l) ≡ Row rows) (sym new) last))
          (in-last r rows memo i)

      apart' : (r s : ℕ) → In r (memo ++ rows ∷ []) → In s (memo ++ rows ∷ []) → mg (length (val' r)) ≡ true → val' r ≡ val' s → r ≡ s
      apart' r s i j b z =
          ⊎_elim
          (λ u. ⊎_elim
          (λ v. g.apart r s u v (rw (← keep r u) b) (sym (keep r u) ∙ z ∙ keep s v))
          (λ v. absurd (fresh r u (sym (keep r u) ∙ z ∙ ap val' v ∙ new)))
          (in-last s rows memo j))
          (λ u. ⊎_elim
          (λ v. absurd (fresh s v (sym (keep s v) ∙ sym z ∙ ap val' u ∙ new)))
          (λ v. u ∙ sym v)
          (in-last s rows memo j))
          (in-last r rows memo i)

      inside' : (r : ℕ) → In r (memo ++ rows ∷ []) → r < suc rows
      inside' r i = ⊎_elim (λ j. let a : r < rows = g.inside r j in omega arith) (λ z. omega arith) (in-last r rows memo i)

  -- rows that are added otherwise, and data that is appended, keep it
  pub kept : (val' : ℕ → List ℕ) (rows' : ℕ) → ((r : ℕ) → In r memo → val' r ≡ val r) → rows ≤ rows' → Holds h mg val' t memo rows'
  kept val' rows' keep l =
      record {
        named = g.named;
        placed = λ r i b. rw (keep r i) (g.placed r i (rw (← keep r i) b));
        apart = λ r s i j b z. g.apart r s i j (rw (← keep r i) b) (sym (keep r i) ∙ z ∙ keep s j);
        sparse = omega (arith, g.sparse);
        inside = λ r i. let a : r < rows = g.inside r i in omega arith;
      }

  -- a stored row that is too long to merge is not entered
  pub skipped : (x : List ℕ) (val' : ℕ → List ℕ) → mg (length x) ≡ false → ((r : ℕ) → In r memo → val' r ≡ val r) → val' rows ≡ x
      → Holds h mg val' t (memo ++ rows ∷ []) (suc rows)
  skipped x val' m keep new =
      record {
        named = λ p r z. in_left r rows memo (g.named p r z);
        placed = λ r i b.
            ⊎_elim (λ j. rw (keep r j) (g.placed r j (rw (← keep r j) b)))
            (λ z. absurd (long r z b)) (in-last r rows memo i);
        apart = λ r s i j b z.
            ⊎_elim
            (λ u. ⊎_elim
            (λ v. g.apart r s u v (rw (← keep r u) b) (sym (keep r u) ∙ z ∙ keep s v))
            (λ v. absurd (long s v (rw (← z) b)))
            (in-last s rows memo j))
            (λ u. absurd (long r u b))
            (in-last r rows memo i);
        sparse = omega (arith, g.sparse);
        inside = λ r i. ⊎_elim (λ j. let a : r < rows = g.inside r j in omega arith) (λ z. omega arith) (in-last r rows memo i);
      }
    where
      long : (r : ℕ) → r ≡ rows → mg (length (val' r)) ≡ true → ⊥
      long r z b = true≢false (sym b ∙ ap (λ (k : ℕ). mg (length (val' k))) z ∙ ap (λ (l : List ℕ). mg (length l)) new ∙ m)

pub none_in : (r : ℕ) (l : List ℕ) → In r l → l ≡ [] → ⊥
none_in r [] i e = elim i [ ]
none_in r (s ∷ l) i e = let z : ◌≡◌ {A = ℕ} 0 1 = cc in omega arith

zeros : (n p : ℕ) → ◌≡◌ {A = ℕ} (get_or (replicate n 0) p 0) 0
zeros zero p = refl
zeros (suc n) zero = refl
zeros (suc n) (suc p) = zeros n p

-- a cleared table holds no rows
pub cleared-holds : (h : List ℕ → ℕ) (mg : ℕ → Bool) (val : ℕ → List ℕ) (n : ℕ) → Holds h mg val (replicate n 0) [] 0
cleared-holds h mg val n =
    record {
      named = λ p r z. absurd (let w : ◌≡◌ {A = ℕ} (get_or (replicate n 0) p 0) 0 = zeros n p in omega arith);
      placed = λ r i. absurd (none_in r [] i refl);
      apart = λ r s i. absurd (none_in r [] i refl);
      sparse = rw filled-zeros (omega arith);
      inside = λ r i. absurd (none_in r [] i refl);
    }
