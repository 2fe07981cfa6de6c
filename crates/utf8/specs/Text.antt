-- The laws of well-formed text: the question says yes exactly where the table does, and where the walk ends. Assumes nothing.
use Rattle.std.specs.Prelude.{◌≡◌, refl, Bool, true, false, ◌&&◌, List, [], ◌∷◌, ◌++◌, ℕ, zero, suc, ◌+◌, ◌-◌, ◌≤◌, ◌<◌, leb, ltb, length, get_or, take, drop}
use Rattle.std.proofs.Common.{sym, ap, ◌∙◌, subst, true≢false, append_assoc, append-nil, zero-add, add-zero, arith, leb-true, leb-false, le-leb, ltb-true, eqb-true, eq-eqb, length-append, length-drop, length-take-le, take-add, drop-drop}
use Rattle.std.proofs.lemmas.Bool.{lt-leb}
use Rattle.std.proofs.Math.Seq.{drop-append_seam, take-length}
use Rattle.utf8.specs.Table.{Range, ◌‥◌, table, row_at, within, in_ranges, WellFormed, none, more, led, led_by, front_length, bad_after, walk, well_formed}

-- ranges

inside : (b l h : ℕ) → l ≤ b → b ≤ h → within b (l ‥ h) ≡ true
unfolding within
inside b l h p q = rw (le-leb l b p, le-leb b h q)

pub under : (b : ℕ) (r : Range) → b < r.lo → within b r ≡ false
unfolding within
under b r p = rw (lt-leb r.lo b p)

pub past-and : (x : Bool) → x && false ≡ false
past-and true = refl
past-and false = refl

pub above-range : (b : ℕ) (r : Range) → r.hi < b → within b r ≡ false
unfolding within
above-range b r p = rw (lt-leb b r.hi p) (past-and (leb r.lo b))

pub and_both : (x y : Bool) → x && y ≡ true → (x ≡ true) × (y ≡ true)
and_both true y e = (refl, e)
and_both false y e = absurd (true≢false (sym e))

within-bounds : (b : ℕ) (r : Range) → within b r ≡ true → (r.lo ≤ b) × (b ≤ r.hi)
unfolding within
within-bounds b r e =
    let p = and_both (leb r.lo b) (leb b r.hi) e in
    (leb-true r.lo b p.0, leb-true b r.hi p.1)

-- a lead byte leaves at most one row, since the rows' first ranges ascend

-- the first range of each row begins above h
abbrev above : ℕ → List (List Range) → Bool
above h [] = true
above h ([] ∷ rows) = false
above h ((r ∷ rs) ∷ rows) = ltb h r.lo && above h rows

abbrev ascending : List (List Range) → Bool
ascending [] = true
ascending ([] ∷ rows) = false
ascending ((r ∷ rs) ∷ rows) = above r.hi rows && ascending rows

above-none : (h b : ℕ) (rows : List (List Range)) → above h rows ≡ true → b ≤ h → led b rows ≡ []
unfolding led
above-none h b [] e l = refl
above-none h b ([] ∷ rows) e l = absurd (true≢false (sym e))
above-none h b ((r ∷ rs) ∷ rows) e l =
    let p = and_both (ltb h r.lo) (above h rows) e in
    rw (under b r (omega (arith, ltb-true h r.lo p.0))) (above-none h b rows p.1 l)

above_at : (h : ℕ) (rows : List (List Range)) (k : ℕ) (r : Range) (rs : List Range) → above h rows ≡ true → k < length rows → get_or rows k [] ≡ r ∷ rs
    → h < r.lo
above_at h [] k r rs e l q = absurd (omega arith)
above_at h ([] ∷ rows) k r rs e l q = absurd (true≢false (sym e))
above_at h ((a ∷ ts) ∷ rows) zero r rs e l q =
    let p = and_both (ltb h a.lo) (above h rows) e in
    let same : a ≡ r = cc in
    rw (← same) (ltb-true h a.lo p.0)
above_at h ((a ∷ ts) ∷ rows) (suc k) r rs e l q =
    let p = and_both (ltb h a.lo) (above h rows) e in
    above_at h rows k r rs p.1 (omega arith) q

led-one : (rows : List (List Range)) (k b : ℕ) (r : Range) (rs : List Range) → ascending rows ≡ true → k < length rows → get_or rows k [] ≡ r ∷ rs
    → within b r ≡ true → led b rows ≡ rs ∷ []
unfolding led
led-one [] k b r rs e l q w = absurd (omega arith)
led-one ([] ∷ rows) k b r rs e l q w = absurd (true≢false (sym e))
led-one ((a ∷ ts) ∷ rows) zero b r rs e l q w =
    let p = and_both (above a.hi rows) (ascending rows) e in
    let first : a ≡ r = cc in
    let rest : ts ≡ rs = cc in
    rw (first, w, rest) (ap (λ (x : List (List Range)). rs ∷ x) (above-none a.hi b rows p.0 (rw first (within-bounds b r w).1)))
led-one ((a ∷ ts) ∷ rows) (suc k) b r rs e l q w =
    let p = and_both (above a.hi rows) (ascending rows) e in
    let far : a.hi < r.lo = above_at a.hi rows k r rs p.0 (omega arith) q in
    rw (above-range b a (omega (arith, within-bounds b r w))) (led-one rows k b r rs p.1 (omega arith) q w)

-- row k of the table, where b is in its first range
led-row : (k b : ℕ) (r : Range) (rs : List Range) → k < length table → row_at k ≡ r ∷ rs → within b r ≡ true → led b table ≡ rs ∷ []
led-row k b r rs l q w = led-one table k b r rs refl l q w

pub lead-row : (k b l h : ℕ) (rs : List Range) → k < length table → row_at k ≡ (l ‥ h) ∷ rs → l ≤ b → b ≤ h → led b table ≡ rs ∷ []
lead-row k b l h rs n q p r = led-row k b (l ‥ h) rs n q (inside b l h p r)

-- the bytes after the lead

pub fits-none : (rs : List Range) (s : List ℕ) → length s < length rs → in_ranges rs s ≡ false
unfolding in_ranges
fits-none [] s h = absurd (omega arith)
fits-none (r ∷ rs) [] h = refl
fits-none (r ∷ rs) (b ∷ s) h = rw (fits-none rs s (omega arith)) (past-and (within b r))

fits-append : (rs : List Range) (t s : List ℕ) → in_ranges rs t ≡ true → in_ranges rs (t ++ s) ≡ true
unfolding in_ranges
fits-append [] t s e = refl
fits-append (r ∷ rs) [] s e = absurd (true≢false (sym e))
fits-append (r ∷ rs) (b ∷ t) s e =
    let p = and_both (within b r) (in_ranges rs t) e in
    rw (p.0, fits-append rs t s p.1)

pub fits-take : (rs : List Range) (s : List ℕ) → in_ranges rs s ≡ true → in_ranges rs (take (length rs) s) ≡ true
unfolding in_ranges
fits-take [] s e = refl
fits-take (r ∷ rs) [] e = absurd (true≢false (sym e))
fits-take (r ∷ rs) (b ∷ s) e =
    let p = and_both (within b r) (in_ranges rs s) e in
    rw (p.0, fits-take rs s p.1)

pub fits-length : (rs : List Range) (s : List ℕ) → in_ranges rs s ≡ true → length rs ≤ length s
fits-length rs s e = by (leb (length rs) (length s)) refl
  where
    by : (x : Bool) → leb (length rs) (length s) ≡ x → length rs ≤ length s
    by true q = leb-true (length rs) (length s) q
    by false q = absurd (true≢false (sym e ∙ fits-none rs s (leb-false (length rs) (length s) q)))

-- a sequence at the front is a row of the table, and back

pub row-front : (k b : ℕ) (t s : List ℕ) (row : List Range) → k < length table → row_at k ≡ row → length (b ∷ t) ≡ length row → in_ranges row (b ∷ t) ≡ true
    → front_length (b ∷ (t ++ s)) ≡ suc (length t)
unfolding front_length in_ranges led_by
row-front k b t s [] l q n e = absurd (omega arith)
row-front k b t s (r ∷ rs) l q n e =
    let p = and_both (within b r) (in_ranges rs t) e in
    rw (led-row k b r rs l q p.0, fits-append rs t s p.1) (sym n)

-- the row whose ranges the bytes at the front have
pub record RowFound (rows : List (List Range)) (s : List ℕ) (n : ℕ) : Type 0 where
  pub at : ℕ
  pub in_rows : at < length rows
  pub fit : in_ranges (get_or rows at []) s ≡ true
  pub len : length (get_or rows at []) ≡ n

found-later : (row : List Range) (rows : List (List Range)) (s : List ℕ) (n : ℕ) → RowFound rows s n → RowFound (row ∷ rows) s n
found-later row rows s n f = record { at = suc f.at; in_rows = omega (arith, f.in_rows); fit = f.fit; len = f.len }

found : (rows : List (List Range)) (b n : ℕ) (s : List ℕ) → led_by (led b rows) s ≡ suc n → RowFound rows (b ∷ s) (suc n)
unfolding led led_by in_ranges
found [] b n s e = let z : ◌≡◌ {A = ℕ} 0 (suc n) = e in absurd (omega arith)
found ([] ∷ rows) b n s e = found-later [] rows (b ∷ s) (suc n) (found rows b n s e)
found ((r ∷ rs) ∷ rows) b n s e = by (within b r) (in_ranges rs s) refl refl (found rows b n s)
  where
    by : (x y : Bool) → within b r ≡ x → in_ranges rs s ≡ y → (led_by (led b rows) s ≡ suc n → RowFound rows (b ∷ s) (suc n))
        → RowFound ((r ∷ rs) ∷ rows) (b ∷ s) (suc n)
    by true true p q ih = record { at = 0; in_rows = omega arith; fit = rw (p, q); len = rw (p, q) at e }
    by true false p q ih = found-later (r ∷ rs) rows (b ∷ s) (suc n) (ih (rw (p, q) at e))
    by false y p q ih = found-later (r ∷ rs) rows (b ∷ s) (suc n) (ih (rw p at e))

pub front-row : (b n : ℕ) (s : List ℕ) → front_length (b ∷ s) ≡ suc n → RowFound table (b ∷ s) (suc n)
unfolding front_length
front-row b n s e = found table b n s e

-- the walk from sequence to sequence

pub bad-skip : (k : ℕ) (s : List ℕ) → k ≤ length s → bad_after k s ≡ k + walk (drop k s)
unfolding bad_after
bad-skip zero s h = sym (zero-add (bad_after 0 s))
bad-skip (suc k) [] h = absurd (omega arith)
bad-skip (suc k) (b ∷ s) h = rw (bad-skip k s (omega arith)) (omega arith)

pub judge-one : (b n : ℕ) (s : List ℕ) → front_length (b ∷ s) ≡ suc n → walk (b ∷ s) ≡ suc (bad_after n s)
unfolding bad_after
judge-one b n s e = rw e

pub judge-none : (b : ℕ) (s : List ℕ) → front_length (b ∷ s) ≡ 0 → walk (b ∷ s) ≡ 0
unfolding bad_after
judge-none b s e = rw e

-- the walk passes a well-formed text
pub formed-skip : {t : List ℕ} → WellFormed t → (u : List ℕ) → walk (t ++ u) ≡ length t + walk u
formed-skip none u = sym (zero-add (walk u))
formed-skip (more k [] s l n e w) u = formed-skip w u
formed-skip (more k (b ∷ t) s l n e w) u =
    let on : t ++ s ++ u ≡ t ++ (s ++ u) = append_assoc t s u in
    let all : length (t ++ s) ≡ length t + length s = length-append t s in
    let one = judge-one b (length t) (t ++ (s ++ u)) (row-front k b t (s ++ u) (row_at k) l refl n e) in
    let rest : bad_after (length t) (t ++ (s ++ u)) ≡ length t + walk (s ++ u)
    = bad-skip (length t) (t ++ (s ++ u)) (simp length-append (omega arith)) ∙ rw (drop-append_seam t (s ++ u)) refl in
    rw on (one ∙ ap suc rest ∙ omega (arith, formed-skip w u))

-- where the walk ends: within the text, all before it well formed, and no sequence starts there
pub record Ended (s : List ℕ) : Type 0 where
  pub in-text : walk s ≤ length s
  pub before : WellFormed (take (walk s) s)
  pub none-there : front_length (drop (walk s) s) ≡ 0

-- shown for lists of at most n bytes, one n after the other
abbrev EndedTo : ℕ → Type 0
EndedTo n = (s : List ℕ) → length s ≤ n → Ended s

ended-none : Ended []
unfolding bad_after front_length
ended-none = record { in-text = omega arith; before = none; none-there = refl }

ended-next : (n : ℕ) → EndedTo n → EndedTo (suc n)
ended-next n ih [] h = ended-none
ended-next n ih (b ∷ s) h = by (front_length (b ∷ s)) refl
  where
    by : (k : ℕ) → front_length (b ∷ s) ≡ k → Ended (b ∷ s)
    by zero q =
        let z = judge-none b s q in
        record { in-text = rw z (omega arith); before = rw z none; none-there = rw z q }
    by (suc m) q =
        let f = front-row b m s q in
        let fit : in_ranges (row_at f.at) (take (suc m) (b ∷ s)) ≡ true = rw f.len at (fits-take (row_at f.at) (b ∷ s) f.fit) in
        let most : suc m ≤ length (b ∷ s) = rw f.len at (fits-length (row_at f.at) (b ∷ s) f.fit) in
        let len : length (take (suc m) (b ∷ s)) ≡ suc m = length-take-le (suc m) (b ∷ s) most in
        let left : length (drop m s) ≡ length s - m = length-drop m s in
        let on : walk (b ∷ s) ≡ suc m + walk (drop m s) = judge-one b m s q ∙ ap suc (bad-skip m s (omega arith)) ∙ omega arith in
        let rest = ih (drop m s) (omega arith) in
        let far = rest.in-text in
        let seam : take (suc m + walk (drop m s)) (b ∷ s) ≡ take (suc m) (b ∷ s) ++ take (walk (drop m s)) (drop m s) = take-add (suc m)
        (walk (drop m s)) (b ∷ s) in
        let after : drop (walk (drop m s)) (drop m s) ≡ drop (suc m + walk (drop m s)) (b ∷ s) = drop-drop (walk (drop m s)) (suc m) (b ∷ s) in
        record {
          in-text = omega arith;
          before =
              rw (on, seam)
              (more f.at (take (suc m) (b ∷ s)) (take (walk (drop m s)) (drop m s)) f.in_rows (len ∙ sym f.len) fit rest.before);
          none-there = rw (on, ← after) rest.none-there;
        }

ended-within : (n : ℕ) → EndedTo n
ended-within zero [] h = ended-none
ended-within zero (b ∷ s) h = absurd (omega arith)
ended-within (suc n) s h = ended-next n (ended-within n) s h

pub ended : (s : List ℕ) → Ended s
ended s = ended-within (length s) s (omega arith)

-- well formed, by the table, exactly where the question says yes
pub formed-yes : (s : List ℕ) → WellFormed s → well_formed s ≡ true
unfolding well_formed bad_after
formed-yes s w =
    let end : walk s ≡ length s = rw (append-nil s) at (formed-skip w []) ∙ add-zero (length s) in
    eq-eqb (walk s) (length s) end

pub yes-formed : (s : List ℕ) → well_formed s ≡ true → WellFormed s
unfolding well_formed
yes-formed s e =
    let end : walk s ≡ length s = eqb-true (walk s) (length s) e in
    subst WellFormed (ap (λ (i : ℕ). take i s) end ∙ take-length s) (ended s).before
