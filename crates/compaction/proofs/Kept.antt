-- The blocks of compaction as lists of bytes, in step with the walk over lengths; every row shows over them what it showed. Assumes nothing.
use mathlib.Core.Path.{◌≡◌, refl, sym, ap, ◌∙◌}
use mathlib.Core.Bool.{Bool, true, false, true≢false}
use mathlib.Core.Logic.{by_cases}
use native.Mathlib.Decide.{ℕ_discrete}
use mathlib.Core.List.{List, [], ◌∷◌, ◌++◌, map, map-append, append-nil, append_assoc}
use Prim.Native.Nat.{ℕ, zero, suc, ◌+◌, ◌^◌, ◌<◌}
use native.Mathlib.Omega.{arith}
use borrow.Author.Tests.{leb-true, leb-false}
use lib.Dec.{leb}
use lib.ListN.{length, length-append, length-map}
use Rattle.basis.specs.Pick.{pick}
use Rattle.views.specs.View.{short_most, is_short, length_of, long_view}
use Rattle.column.specs.Laid.{rows_of, flat}
use Rattle.showing.specs.Row.{Row, Fits, placed}
use Rattle.showing.specs.Rows.{Rows, rnil}
use Rattle.showing.proofs.RowsLaws.{ext-add, ext-last, row_any, rows_ext, rows_snoc}
use Rattle.showing.proofs.ShowsLaws.{rows-by}
use Rattle.compaction.specs.Cut.{Cut, cut, shut, add, room_for, cut_all, cut_from, cut_lens, is_none}
use Rattle.compaction.specs.Compact.{long_of, view_by}
use Rattle.compaction.proofs.CutLaws.{cut-snoc}
use Rattle.compaction.proofs.LaidLaws.{view-short, view-long}
use Rattle.laying.specs.WrittenLaws.{flat-snoc}

-- the blocks closed and the current one, as bytes
pub record Fill : Type 0 where
  pub done : List (List ℕ)
  pub now : List ℕ

abbrev pub fill : List (List ℕ) → List ℕ → Fill
fill done now = record { done = done; now = now }

abbrev pub filled : Fill → List (List ℕ)
filled f = f.done ++ f.now ∷ []

abbrev pub close : Fill → Fill
close f = fill (filled f) []

abbrev pub lay : List ℕ → Fill → Fill
lay x f = fill f.done (f.now ++ x)

unfoldable pub room_of : ℕ → ℕ → Fill → Fill
room_of most n f = pick (leb (length f.now + n) most) f (close f)

unfoldable pub fills : ℕ → (ℕ → List ℕ) → (ℕ → List ℕ) → ℕ → Fill
fills most view value zero = fill [] []
fills most view value (suc k) = pick (is_short (length_of (view k))) (fills most view value k)
    (lay (value k) (room_of most (length_of (view k)) (fills most view value k)))

-- their lengths are the walk's
abbrev pub cut_of : Fill → Cut
cut_of f = cut (map length f.done) (length f.now)

pub room_cut : (most n : ℕ) (f : Fill) → cut_of (room_of most n f) ≡ room_for most n (cut_of f)
unfolding room_of room_for
room_cut most n f = by (leb (length f.now + n) most)
  where
    by : (t : Bool) → cut_of (pick t f (close f)) ≡ pick t (cut_of f) (shut (cut_of f))
    by true = refl
    by false = rw (map-append length f.done (f.now ∷ []))

pub lay-cut : (x : List ℕ) (n : ℕ) (f : Fill) → length x ≡ n → cut_of (lay x f) ≡ add n (cut_of f)
lay-cut x n f e = rw (length-append f.now x, e)

module _ (most : ℕ) (view value : ℕ → List ℕ) where
  abbrev len : ℕ → ℕ
  len r = length_of (view r)

  pub cut-fills : (n : ℕ) → ((r : ℕ) → r < n → length (value r) ≡ len r) → cut_of (fills most view value n) ≡ cut_all most (long_of len len n)
  unfolding fills cut_all cut_from long_of
  cut-fills zero h = refl
  cut-fills (suc n) h = by (is_short (len n)) (cut-fills n (λ r l. h r (omega arith)))
    where
      by : (t : Bool) → cut_of (fills most view value n) ≡ cut_all most (long_of len len n)
          → cut_of (pick t (fills most view value n) (lay (value n) (room_of most (len n) (fills most view value n))))
          ≡ cut_all most (long_of len len n ++ pick t [] (len n ∷ []))
      by true e = rw (append-nil (long_of len len n)) e
      by false e =
          rw (cut-snoc most (long_of len len n) (len n), ← e, ← room_cut most (len n) (fills most view value n))
          (lay-cut (value n) (len n) (room_of most (len n) (fills most view value n)) (h n (omega arith)))

-- every byte is there
pub flat-last : (bs : List (List ℕ)) (c : List ℕ) → flat (bs ++ c ∷ []) ≡ flat bs ++ c
flat-last bs c = flat-snoc bs c

room-flat : (most n : ℕ) (f : Fill) → flat (filled (room_of most n f)) ≡ flat (filled f)
unfolding room_of
room-flat most n f = by (leb (length f.now + n) most)
  where
    by : (t : Bool) → flat (filled (pick t f (close f))) ≡ flat (filled f)
    by true = refl
    by false = flat-last (filled f) [] ∙ append-nil (flat (filled f))

lay-flat : (x : List ℕ) (f : Fill) → flat (filled (lay x f)) ≡ flat (filled f) ++ x
lay-flat x f = flat-last f.done (f.now ++ x) ∙ rw (flat-last f.done f.now) (sym (append_assoc (flat f.done) f.now x))

module _ (most : ℕ) (view value : ℕ → List ℕ) where
  pub flat-fills : (n : ℕ) → flat (filled (fills most view value n)) ≡ flat (long_of (λ r. length_of (view r)) value n)
  unfolding fills flat long_of
  flat-fills zero = refl
  flat-fills (suc n) = by (is_short (length_of (view n))) (flat-fills n)
    where
      by : (t : Bool) → flat (filled (fills most view value n)) ≡ flat (long_of (λ r. length_of (view r)) value n)
          → flat (filled (pick t (fills most view value n) (lay (value n) (room_of most (length_of (view n)) (fills most view value n)))))
          ≡ flat (long_of (λ r. length_of (view r)) value n ++ pick t [] (value n ∷ []))
      by true e = rw (append-nil (long_of (λ r. length_of (view r)) value n)) e
      by false e =
          lay-flat (value n) (room_of most (length_of (view n)) (fills most view value n))
          ∙ ap (λ (y : List ℕ). y ++ value n) (room-flat most (length_of (view n)) (fills most view value n) ∙ e)
          ∙ sym (flat-last (long_of (λ r. length_of (view r)) value n) (value n))

-- what bounds the numbers in a view
pub record Small (f : Fill) : Type 0 where
  pub count : length f.done < 2 ^ 32
  pub bytes : length (flat (filled f)) < 2 ^ 32

pub small-lay : (x : List ℕ) (f : Fill) → Small (lay x f) → Small f
small-lay x f s = record { count = s.count; bytes = omega (arith, length-append (flat (filled f)) x, rw (lay-flat x f) at s.bytes) }

pub small-room : (most n : ℕ) (f : Fill) → Small (room_of most n f) → Small f
unfolding room_of
small-room most n f = by (leb (length f.now + n) most)
  where
    by : (t : Bool) → Small (pick t f (close f)) → Small f
    by true s = s
    by false s =
        record {
          count = omega (arith, simp length-append at s.count);
          bytes = rw (append-nil (flat (filled f))) at (rw (flat-last (filled f) []) at s.bytes);
        }

pub fits-lay : (x : List ℕ) (f : Fill) → Small (lay x f) → Fits x (length f.done) (length f.now)
fits-lay x f s =
    let b : length (flat (filled f)) + length x < 2 ^ 32 = rw (lay-flat x f, length-append (flat (filled f)) x) at s.bytes in
    let d : length (flat f.done) + length f.now + length x < 2 ^ 32 = rw (flat-last f.done f.now, length-append (flat f.done) f.now) at b in
    record { len = omega arith; block = s.count; offset = omega arith }

-- every row shows what it showed
module _ (most n : ℕ) (f : Fill) {vs xs : List (List ℕ)} where
  rows-room : Rows (filled f) vs xs → Rows (filled (room_of most n f)) vs xs
  unfolding room_of
  rows-room r = by (leb (length f.now + n) most)
    where
      by : (t : Bool) → Rows (filled (pick t f (close f))) vs xs
      by true = r
      by false = rows_ext (ext-add (filled f) ([] ∷ [])) r

rows-lay : (f : Fill) (x : List ℕ) {vs xs : List (List ℕ)} → Rows (filled f) vs xs → short_most < length x → Small (lay x f)
    → Rows (filled (lay x f)) (vs ++ long_view x (length f.done) (length f.now) ∷ []) (xs ++ x ∷ [])
rows-lay f x r h s = rows_snoc (rows_ext (ext-last f.done f.now x) r) (placed f.done f.now x h (fits-lay x f s))

module _ (most : ℕ) (view value : ℕ → List ℕ) (bs : List (List ℕ)) where
  abbrev upto : ℕ → Fill
  upto n = fills most view value n

  -- the view of a long row, by the blocks as bytes
  pub view-placed : (n : ℕ) → ((r : ℕ) → r < n → length (value r) ≡ length_of (view r)) → is_short (length_of (view n)) ≡ false
      → view_by most view value n ≡ long_view (value n) (length (room_of most (length_of (view n)) (upto n)).done)
      (length (room_of most (length_of (view n)) (upto n)).now)
  view-placed n h e =
      view-long most view value n e
      ∙ rw (← cut-fills most view value n h, ← room_cut most (length_of (view n)) (upto n), length-map (room_of most (length_of (view n)) (upto n)).done length)

  pub small-fills : (n : ℕ) → Small (upto (suc n)) → Small (upto n)
  unfolding fills
  small-fills n s = by (is_short (length_of (view n))) s
    where
      by : (t : Bool) → Small (pick t (upto n) (lay (value n) (room_of most (length_of (view n)) (upto n)))) → Small (upto n)
      by true s = s
      by false s = small-room most (length_of (view n)) (upto n) (small-lay (value n) (room_of most (length_of (view n)) (upto n)) s)

  pub rows-fills : (n : ℕ) → ((r : ℕ) → r < n → Row bs (view r) (value r)) → Small (upto n) → Rows (filled (upto n)) (rows_of (view_by most view value)
      n) (rows_of value n)
  unfolding fills rows_of
  rows-fills zero h s = rnil
  rows-fills (suc n) h s = by (is_short (length_of (view n))) refl s (rows-fills n (λ r l. h r (omega arith)) (small-fills n s))
    where
      by : (t : Bool) → is_short (length_of (view n)) ≡ t → Small (pick t (upto n) (lay (value n) (room_of most (length_of (view n)) (upto n))))
          → Rows (filled (upto n)) (rows_of (view_by most view value) n) (rows_of value n)
          → Rows (filled (pick t (upto n) (lay (value n) (room_of most (length_of (view n)) (upto n))))) (rows_of (view_by most view value) n ++ view_by
          most view value n ∷ []) (rows_of value n ++ value n ∷ [])
      by true e s rs =
          let c = h n (omega arith) in
          rw (view-short most view value n e) (rows_snoc rs (row_any (omega (arith, leb-true (length_of (view n)) short_most e, c.len)) c))
      by false e s rs =
          let c = h n (omega arith) in
          rw (view-placed n (λ r l. sym (h r (omega arith)).len) e)
          (rows-lay (room_of most (length_of (view n)) (upto n)) (value n) (rows-room most (length_of (view n)) (upto n) rs)
          (omega (arith, leb-false (length_of (view n)) short_most e, c.len)) s)

-- ---- where no row is long

none_left : (xs ys : List ℕ) → is_none (xs ++ ys) ≡ true → is_none xs ≡ true
none_left [] ys e = refl
none_left (x ∷ xs) ys e = e

none_right : (xs ys : List ℕ) → is_none (xs ++ ys) ≡ true → is_none ys ≡ true
none_right [] ys e = e
none_right (x ∷ xs) ys e = absurd (true≢false (sym e))

pub none-short : (len : ℕ → ℕ) (n : ℕ) → is_none (long_of len len n) ≡ true → (r : ℕ) → r < n → is_short (len r) ≡ true
unfolding long_of
none-short len zero e r h = absurd (omega arith)
none-short len (suc n) e r h =
    by_cases (ℕ_discrete r n)
    (λ q. rw q (by (is_short (len n)) (none_right (long_of len len n) (pick (is_short (len n)) [] (len n ∷ [])) e)))
    (λ q. none-short len n (none_left (long_of len len n) (pick (is_short (len n)) [] (len n ∷ [])) e) r (omega arith))
  where
    by : (t : Bool) → is_none (pick t [] (len n ∷ [])) ≡ true → t ≡ true
    by true e = refl
    by false e = e

pub none-flat : (view value : ℕ → List ℕ) (n : ℕ) → is_none (long_of (λ r. length_of (view r)) (λ r. length_of (view r)) n) ≡ true
    → flat (long_of (λ r. length_of (view r)) value n) ≡ []
unfolding long_of flat
none-flat view value zero e = refl
none-flat view value (suc n) e =
    let a : List ℕ = long_of (λ r. length_of (view r)) (λ r. length_of (view r)) n in
    by (is_short (length_of (view n))) (none_right a (pick (is_short (length_of (view n))) [] (length_of (view n) ∷ [])) e)
    (none-flat view value n (none_left a (pick (is_short (length_of (view n))) [] (length_of (view n) ∷ [])) e))
  where
    by : (t : Bool) → is_none (pick t [] (length_of (view n) ∷ [])) ≡ true → flat (long_of (λ r. length_of (view r)) value n) ≡ []
        → flat (long_of (λ r. length_of (view r)) value n ++ pick t [] (value n ∷ [])) ≡ []
    by true e f = rw (append-nil (long_of (λ r. length_of (view r)) value n)) f
    by false e f = absurd (true≢false (sym e))

-- the blocks: none where no row is long
unfoldable pub blocks_out : ℕ → (ℕ → List ℕ) → (ℕ → List ℕ) → ℕ → List (List ℕ)
blocks_out most view value n = pick (is_none (long_of (λ r. length_of (view r)) (λ r. length_of (view r)) n)) [] (filled (fills most view value n))

module _ (most : ℕ) (view value : ℕ → List ℕ) (n : ℕ) where
  abbrev lengths : List ℕ
  lengths = long_of (λ r. length_of (view r)) (λ r. length_of (view r)) n

  pub lens-out : ((r : ℕ) → r < n → length (value r) ≡ length_of (view r)) → map length (blocks_out most view value n) ≡ cut_lens most lengths
  unfolding blocks_out cut_lens
  lens-out h = by (is_none lengths)
    where
      by : (t : Bool) → map length (pick t [] (filled (fills most view value n))) ≡ pick t [] ((cut_all most lengths).done ++ (cut_all most lengths).fill ∷ [])
      by true = refl
      by false = rw (map-append length (fills most view value n).done ((fills most view value n).now ∷ []), ← cut-fills most view value n h)

  pub flat_out : flat (blocks_out most view value n) ≡ flat (long_of (λ r. length_of (view r)) value n)
  unfolding blocks_out flat
  flat_out = by (is_none lengths) refl
    where
      by : (t : Bool) → is_none lengths ≡ t → flat (pick t [] (filled (fills most view value n))) ≡ flat (long_of (λ r. length_of (view r)) value n)
      by true e = sym (none-flat view value n e)
      by false e = flat-fills most view value n

  -- rows over the blocks
  pub rows_out : (bs : List (List ℕ)) → ((r : ℕ) → r < n → Row bs (view r) (value r)) → length (blocks_out most view value n) < 2 ^ 32
      → length (flat (blocks_out most view value n)) < 2 ^ 32
      → Rows (blocks_out most view value n) (rows_of (view_by most view value) n) (rows_of value n)
  unfolding blocks_out
  rows_out bs h p q = by (is_none lengths) refl p q
    where
      by : (t : Bool) → is_none lengths ≡ t → length (pick t [] (filled (fills most view value n))) < 2 ^ 32
          → length (flat (pick t [] (filled (fills most view value n)))) < 2 ^ 32
          → Rows (pick t [] (filled (fills most view value n))) (rows_of (view_by most view value) n) (rows_of value n)
      by true e p q =
          rows-by [] (view_by most view value) value n
          (λ r l.
          let s = none-short (λ r. length_of (view r)) n e r l in
          let c = h r l in
          rw (view-short most view value r s) (row_any (omega (arith, leb-true (length_of (view r)) short_most s, c.len)) c))
      by false e p q = rows-fills most view value bs n h (record { count = omega (arith, simp length-append at p); bytes = q })
