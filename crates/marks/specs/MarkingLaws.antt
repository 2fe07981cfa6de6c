-- The mark of a row as it was looked for, and the tally row by row. Assumes nothing.
use Rattle.std.specs.Prelude.{◌≡◌, Bool, true, false, List, [], length, Ok, Err, Result}
use Rattle.std.proofs.Math.Path.{refl, sym, ap, ap₂}
use Rattle.std.proofs.Common.{◌∙◌, add-zero, add-one, leb-true}
use Rattle.std.proofs.Math.Bool.{not}
use Prim.Native.Nat.{ℕ, zero, suc, ◌+◌, ◌*◌, ◌/◌, ◌≤◌, ◌<◌}
use native.Mathlib.Omega.{arith}
use Rattle.basis.specs.Pick.{pick}
use Rattle.bounds.specs.Bounds.{row_limit, row-limit-small}
use Rattle.bounds.specs.Refusals.{is_accepted, if_accepted, accepted, Why}
use Rattle.bounds.specs.declared.Refusal.{Refusal}
use Rattle.null_bits.specs.Bits as bits
use Rattle.views.specs.View.{view_at}
use Rattle.column.specs.declared.Block.{Block}
use Rattle.column.specs.declared.Column.{Column}
use Rattle.column.specs.declared.Spot.{Spot}
use Rattle.column.specs.Lent.{Lent, buffers, fits, row_room}
use Rattle.column.proofs.FitLaws.{and_left}
use Rattle.column.specs.Meaning.{shown_at, row_valid}
use Rattle.column.specs.Spot.{spot_in, bytes_at, Lies}
use Rattle.column.proofs.SpotLaws.{spot-shown}
use Rattle.column.specs.Truth.{reach_by, is_inside}
use Rattle.reading.specs.Reading.{why_value, why_of, located_at, value_at}
use Rattle.reading.proofs.ReadingLaws.{Readable, value-readable}
use Rattle.reading.proofs.LocatedLaws.{located-why, located-lies, located-bytes, at_lies, at-bytes}
use Rattle.codes.specs.declared.Mark.{Mark}
use Rattle.codes.specs.declared.Mark.TheVariants.{Null, Other, Code, Date}
use Rattle.codes.specs.Marks.{mark_of}
use Rattle.marks.specs.declared.Tally.{Tally}
use Rattle.marks.specs.Marking.{row_mark, mark_at, is_mark, count_mark, tally_of}

-- ---- a row's mark, by where its value was found; x is what a call that looked for it answered

module _ (views bytes nulls : List ℕ) (table : List Block) (c : Column) (r : ℕ) (x : Result Spot Refusal) (e : x
    ≡ located_at (buffers views bytes table nulls) c r) where
  abbrev l : Lent
  l = buffers views bytes table nulls

  pub mark-no : (z : Refusal) → x ≡ Err z → Err z ≡ mark_at l c r
  unfolding mark_at
  mark-no z f =
      let w : why_value l c r ≡ Err z = sym (located-why l c r x e) ∙ ap why_of f in
      rw w

  module _ (s : Spot) (f : x ≡ Ok s) where
    found : why_value l c r ≡ accepted
    found = sym (located-why l c r x e) ∙ ap why_of f

    pub found-readable : Readable l c r
    found-readable = value-readable l c r (ap is_accepted found)

    pub there-lies : Lies views bytes s
    there-lies = at_lies views bytes (0, 0) (0, 0) (0, 0) x s f (located-lies views bytes nulls table c r x e)

    found-bytes : bytes_at views bytes s ≡ shown_at l c r
    unfolding value_at
    found-bytes =
        at-bytes views bytes (0, 0) (0, 0) (0, 0) x s f
        ∙ located-bytes views bytes nulls table c r x e
        ∙ ap (λ (w : Why). if_accepted w (shown_at l c r) []) found

    pub mark-is : (valid : Bool) → valid ≡ row_valid l c r → (m : Mark) → m ≡ pick valid (mark_of (bytes_at views bytes s)) Null
        → Ok m ≡ mark_at l c r
    unfolding mark_at row_mark
    mark-is valid v m g = rw (found, g, v, found-bytes)

-- the same by where its value stands
module _ (views bytes nulls : List ℕ) (table : List Block) (c : Column) (r : ℕ) (s : Spot) (e : s
    ≡ spot_in (buffers views bytes table nulls) c.blocks (view_at views (c.first + r)) (c.first + r)) where
  pub stands-mark : is_inside (reach_by s) ≡ true → (valid : Bool) → valid ≡ row_valid (buffers views bytes table nulls) c r
      → pick valid (mark_of (bytes_at views bytes s)) Null ≡ row_mark (buffers views bytes table nulls) c r
  unfolding row_mark shown_at
  stands-mark h valid v = rw (v, spot-shown views bytes nulls table c.blocks (c.first + r) s e h)

-- the null map, if there is one, has the bit of a row of a column that fits
pub fits-bit : (l : Lent) (c : Column) (r : ℕ) → fits l c ≡ true → r < c.rows → c.mapped ≡ true → c.first + r < 8 * length l.nulls
unfolding fits row_room
fits-bit l c r h k m =
    let f = leb-true (c.first + c.rows) (row_room c.mapped l) (and_left _ _ h) in
    let g = rw m at f in
    omega arith

-- a row past the map isn't asked of it
pub past-map : (map : List ℕ) (mapped : Bool) (row : ℕ) → length map ≤ row / 8 → (mapped ≡ true → row < 8 * length map)
    → not mapped ≡ bits.valid_at map mapped row
unfolding bits.valid_at
past-map map true row h f = absurd (let g = f refl in omega arith)
past-map map false row h f = refl

-- ---- one more row of a mark

abbrev tally : ℕ → ℕ → ℕ → ℕ → Tally
tally nulls others codes dates = record { nulls = nulls; others = others; codes = codes; dates = dates }

abbrev pub with_mark : Tally → Mark → Tally
with_mark t Null = tally (t.nulls + 1) t.others t.codes t.dates
with_mark t Other = tally t.nulls (t.others + 1) t.codes t.dates
with_mark t Code = tally t.nulls t.others (t.codes + 1) t.dates
with_mark t Date = tally t.nulls t.others t.codes (t.dates + 1)

-- each count may grow by one
pub record Room (t : Tally) : Type 0 where
  pub nulls : t.nulls < 4294967296
  pub others : t.others < 4294967296
  pub codes : t.codes < 4294967296
  pub dates : t.dates < 4294967296

-- a count grows where the mark is its own
grows : (m : Mark) (a b d e : ℕ)
    → with_mark (tally a b d e) m ≡ tally (a + pick (is_mark Null m) 1 0) (b + pick (is_mark Other m) 1 0) (d + pick (is_mark Code m) 1 0)
    (e + pick (is_mark Date m) 1 0)
grows Null a b d e = rw (add-zero b, add-zero d, add-zero e)
grows Other a b d e = rw (add-zero a, add-zero d, add-zero e)
grows Code a b d e = rw (add-zero a, add-zero b, add-zero e)
grows Date a b d e = rw (add-zero a, add-zero b, add-zero d)

most-one : (b : Bool) → pick b 1 0 ≤ 1
most-one true = omega arith
most-one false = omega arith

module _ (l : Lent) (c : Column) where
  pub tally-none : tally 0 0 0 0 ≡ tally_of l c 0
  unfolding count_mark
  tally-none = refl

  pub tally-empty : (t : Tally) → (t.nulls ≡ 0) × ((t.others ≡ 0) × ((t.codes ≡ 0) × (t.dates ≡ 0))) → t ≡ tally_of l c 0
  unfolding count_mark
  tally-empty t e = λ i. tally (e.0 i) (e.1.0 i) (e.1.1.0 i) (e.1.1.1 i)

  pub tally-more : (k : ℕ) (t x : Tally) (m : Mark) → t ≡ tally_of l c k → m ≡ row_mark l c k → x ≡ with_mark t m → x ≡ tally_of l c (k + 1)
  unfolding count_mark
  tally-more k t x m f e p = rw (add-one k) (p ∙ ap₂ with_mark f e ∙ grows (row_mark l c k) (count_mark l c Null k) (count_mark l c Other k)
      (count_mark l c Code k) (count_mark l c Date k))

  count_most : (m : Mark) (n : ℕ) → count_mark l c m n ≤ n
  unfolding count_mark
  count_most m zero = omega arith
  count_most m (suc n) = omega (arith, count_most m n, most-one (is_mark m (row_mark l c n)))

  pub tally-room : (k : ℕ) (t : Tally) → t ≡ tally_of l c k → k ≤ row_limit → Room t
  tally-room k t e h =
      rw e (record {
        nulls = omega (arith, count_most Null k, row-limit-small);
        others = omega (arith, count_most Other k, row-limit-small);
        codes = omega (arith, count_most Code k, row-limit-small);
        dates = omega (arith, count_most Date k, row-limit-small);
      })
