-- Text cut where a sequence begins is text on both sides. Assumes nothing.
use Rattle.std.specs.Prelude.{◌≡◌, refl, Bool, true, false, ◌&&◌, List, [], ◌∷◌, ◌++◌, ℕ, zero, suc, ◌+◌, ◌-◌, ◌≤◌, ◌<◌, leb, length, take, drop, get_or}
use Rattle.std.proofs.Common.{sym, ap, ◌∙◌, subst, true≢false, not-suc-le-zero, arith, leb-true, leb-false, get_or-drop, get_or-append-add}
use Rattle.std.proofs.Math.ListN.{get_or-append, get_or-eq_default}
use Rattle.std.proofs.Math.Seq.{drop-append-add, take-append-add}
use Rattle.utf8.specs.Table.{Range, table, row_at, within, in_ranges, WellFormed, none, more, well_formed}
use Rattle.utf8.specs.Text.{and_both, formed-yes, yes-formed}

-- the byte at a place continues no sequence; the end is such a place
abbrev pub Begins : List ℕ → ℕ → Type 0
Begins s o = 0x80 ≤ get_or s o 0 → 0xC0 ≤ get_or s o 0

-- ranges of bytes that continue a sequence; in the table all but each row's first
conts : List Range → Bool
conts [] = true
conts (r ∷ rs) = (leb 0x80 r.lo && leb r.hi 0xBF) && conts rs

tailed : List (List Range) → Bool
tailed [] = true
tailed (row ∷ rows) = conts (drop 1 row) && tailed rows

row-tailed : (rows : List (List Range)) (k : ℕ) → tailed rows ≡ true → k < length rows → conts (drop 1 (get_or rows k [])) ≡ true
unfolding tailed
row-tailed [] k e h = absurd (not-suc-le-zero h)
row-tailed (row ∷ rows) zero e h = (and_both (conts (drop 1 row)) (tailed rows) e).0
row-tailed (row ∷ rows) (suc k) e h = row-tailed rows k (and_both (conts (drop 1 row)) (tailed rows) e).1 (omega arith)

table-tailed : (k : ℕ) → k < length table → conts (drop 1 (row_at k)) ≡ true
unfolding tailed conts
table-tailed k h = row-tailed table k refl h

conts-fit : (rs : List Range) (t : List ℕ) (i : ℕ) → conts rs ≡ true → in_ranges rs t ≡ true → i < length rs → (0x80 ≤ get_or t i 0) × (get_or t i 0 ≤ 0xBF)
unfolding in_ranges within conts
conts-fit [] t i c f h = absurd (not-suc-le-zero h)
conts-fit (r ∷ rs) [] i c f h = absurd (true≢false (sym f))
conts-fit (r ∷ rs) (b ∷ t) zero c f h =
    let p = and_both (leb 0x80 r.lo) (leb r.hi 0xBF) (and_both (leb 0x80 r.lo && leb r.hi 0xBF) (conts rs) c).0 in
    let q = and_both (leb r.lo b) (leb b r.hi) (and_both (leb r.lo b && leb b r.hi) (in_ranges rs t) f).0 in
    let a = leb-true 0x80 r.lo p.0 in
    let d = leb-true r.hi 0xBF p.1 in
    let x = leb-true r.lo b q.0 in
    let y = leb-true b r.hi q.1 in
    (omega arith, omega arith)
conts-fit (r ∷ rs) (b ∷ t) (suc i) c f h =
    conts-fit rs t i (and_both (leb 0x80 r.lo && leb r.hi 0xBF) (conts rs) c).1 (and_both (leb r.lo b && leb b r.hi) (in_ranges rs t) f).1
    (omega arith)

row-fit : (row : List Range) (t : List ℕ) (i : ℕ) → conts (drop 1 row) ≡ true → in_ranges row t ≡ true → 0 < i → i < length row → (0x80 ≤ get_or t i 0)
    × (get_or t i 0 ≤ 0xBF)
unfolding in_ranges
row-fit [] t i c f p h = absurd (not-suc-le-zero h)
row-fit (r ∷ rs) [] i c f p h = absurd (true≢false (sym f))
row-fit (r ∷ rs) (b ∷ t) zero c f p h = absurd (not-suc-le-zero p)
row-fit (r ∷ rs) (b ∷ t) (suc i) c f p h = conts-fit rs t i c (and_both (within b r) (in_ranges rs t) f).1 (omega arith)

abbrev pub Halves : List ℕ → ℕ → Type 0
Halves s o = WellFormed (take o s) × WellFormed (drop o s)

pub formed-split : {s : List ℕ} → WellFormed s → (o : ℕ) → Begins s o → Halves s o
formed-split none zero b = (none, none)
formed-split none (suc o) b = (none, none)
formed-split (more k t s l n e w) o b = by o b (leb (length t) o) refl (λ m c. formed-split w m c)
  where
    by : (o : ℕ) → Begins (t ++ s) o → (u : Bool) → leb (length t) o ≡ u → ((m : ℕ) → Begins s m → Halves s m) → Halves (t ++ s) o
    by o b true h later =
        let g = leb-true (length t) o h in
        let q : o ≡ length t + (o - length t) = omega arith in
        let c : Begins (t ++ s) (length t + (o - length t)) = subst (Begins (t ++ s)) q b in
        let d : Begins s (o - length t) = rw (get_or-append-add t s (o - length t) 0) at c in
        let r = later (o - length t) d in
        let x : WellFormed (take (length t + (o - length t)) (t ++ s)) = rw (take-append-add t s (o - length t)) (more k t (take (o - length t) s) l n
        e r.0) in
        let y : WellFormed (drop (length t + (o - length t)) (t ++ s)) = rw (drop-append-add t s (o - length t)) r.1 in
        subst (Halves (t ++ s)) (sym q) (x, y)
    by zero b false h later = (none, more k t s l n e w)
    by (suc o) b false h later =
        let g = leb-false (length t) (suc o) h in
        let f = row-fit (row_at k) t (suc o) (table-tailed k l) e (omega arith) (omega arith) in
        let q = get_or-append t s 0 (suc o) g in
        absurd (omega (arith, b (omega arith)))

-- what two such places cut out
pub formed-part : (bs : List ℕ) (a e : ℕ) → well_formed bs ≡ true → a ≤ e → Begins bs a → Begins bs e → well_formed (take (e - a) (drop a bs)) ≡ true
formed-part bs a e f h p q =
    let g : get_or (drop a bs) (e - a) 0 ≡ get_or bs e 0 = get_or-drop a bs (e - a) 0 ∙ ap (λ (i : ℕ). get_or bs i 0) (let z : a + (e - a) ≡ e = omega arith in z) in
    let c : Begins (drop a bs) (e - a) = rw g q in
    formed-yes (take (e - a) (drop a bs)) (formed-split (formed-split (yes-formed bs f) a p).1 (e - a) c).0

pub begins-end : (bs : List ℕ) (o : ℕ) → length bs ≤ o → Begins bs o
begins-end bs o h = λ g. let z = get_or-eq_default bs 0 {n = o} h in absurd (omega arith)
