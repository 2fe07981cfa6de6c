-- A compacted block is longer than the maximum only if exactly one row points into it. Assumes nothing.
use Rattle.bounds.specs.Refusals.{accepted}
use mathlib.Core.Path.{◌≡◌, refl, sym, ap, ◌∙◌, subst}
use mathlib.Core.Bool.{Bool, true, false}
use mathlib.Core.List.{List, [], ◌∷◌, ◌++◌}
use Prim.Native.Nat.{ℕ, zero, suc, ◌+◌, ◌^◌, ◌<◌}
use native.Mathlib.Omega.{arith}
use borrow.Author.Tests.{leb-true, leb-false, eqb-true, eqb-false, lt-leb, ne_eqb}
use lib.Dec.{leb, eqb}
use lib.ListN.{length, get_or, length-append}
use lib.Seq.{get_or-append_seam}
use Rattle.basis.specs.Pick.{pick}
use Rattle.views.specs.View.{short_most, is_short, length_of, long_view}
use Rattle.views.specs.ViewLaws.{long-length, long-block}
use Rattle.column.specs.declared.Column.{Column}
use Rattle.column.specs.Lent.{Lent, block_at}
use Rattle.column.specs.Meaning.{row_view, blocks_of}
use Rattle.column.specs.Laid.{views_of, flat}
use Rattle.showing.specs.Row.{Row, Fits}
use Rattle.showing.specs.Stores.{blocks_at_lem, block-length, get_d_rows}
use Rattle.showing.specs.Rooms.{rooms}
use Rattle.compaction.specs.Cut.{is_none}
use Rattle.compaction.specs.Compact.{long_of, row_shown, view_by, new_lens, new_view, why_compact, compacted, compact_column}
use Rattle.compaction.proofs.LaidLaws.{view-short}
use Rattle.compaction.specs.Bounded.{points, pointing, Bounded}
use Rattle.compaction.proofs.Kept.{Fill, filled, close, lay, room_of, fills, blocks_out, Small, small-fills, fits-lay, view-placed}
use Rattle.compaction.proofs.Compacted.{Room, room, new_blocks, old_row, bytes_small, views-back, blocks-back, compact-shows}

-- how many of the first n of these views point into block k
abbrev pointed : ℕ → (ℕ → List ℕ) → ℕ → ℕ
pointed k f zero = 0
pointed k f (suc n) = pointed k f n + pick (points k (f n)) 1 0

pointed-same : (l : Lent) (c : Column) (f : ℕ → List ℕ) (k n : ℕ) → ((i : ℕ) → i < n → row_view l c i ≡ f i) → pointing l c k n ≡ pointed k f n
unfolding pointing
pointed-same l c f k zero h = refl
pointed-same l c f k (suc n) h = rw (pointed-same l c f k n (λ i j. h i (omega arith)), h n (omega arith))

pub points-short : (k : ℕ) (v : List ℕ) → is_short (length_of v) ≡ true → points k v ≡ false
unfolding points
points-short k v e = rw e

pub points-long : (k : ℕ) (x : List ℕ) (b o : ℕ) → short_most < length x → Fits x b o → points k (long_view x b o) ≡ eqb b k
unfolding points
points-long k x b o h f = rw (long-length x b o f.len, lt-leb (length x) short_most h, long-block x b o f.block)

-- another last block changes no other place; an empty one changes none
pub get_or-other : {A : Type 0} (xs : List A) (y z d : A) (k : ℕ) → (length xs ≡ k → ⊥) → get_or (xs ++ y ∷ []) k d ≡ get_or (xs ++ z ∷ []) k d
get_or-other [] y z d zero h = absurd (h refl)
get_or-other [] y z d (suc k) h = refl
get_or-other (x ∷ xs) y z d zero h = refl
get_or-other (x ∷ xs) y z d (suc k) h = get_or-other xs y z d k (λ q. h (ap suc q))

pub get_or-empty : {A : Type 0} (xs : List A) (d : A) (k : ℕ) → get_or (xs ++ d ∷ []) k d ≡ get_or xs k d
get_or-empty [] d zero = refl
get_or-empty [] d (suc k) = refl
get_or-empty (x ∷ xs) d zero = refl
get_or-empty (x ∷ xs) d (suc k) = get_or-empty xs d k

-- p k rows point into block k: one into a block past the maximum, none beyond the current one
record Bound (most : ℕ) (f : Fill) (p : ℕ → ℕ) : Type 0 where
  over : (k : ℕ) → most < length (get_or (filled f) k []) → p k ≡ 1
  beyond : (k : ℕ) → length f.done < k → p k ≡ 0

-- where a value of n bytes goes, it takes no block with rows past the maximum
record Ready (most n : ℕ) (f : Fill) (p : ℕ → ℕ) : Type 0 where
  bound : Bound most f p
  last : most < length f.now + n → p (length f.done) ≡ 0

ready-room : (most n : ℕ) (f : Fill) (p : ℕ → ℕ) → Bound most f p → Ready most n (room_of most n f) p
unfolding room_of
ready-room most n f p i = by (leb (length f.now + n) most) refl
  where
    by : (t : Bool) → leb (length f.now + n) most ≡ t → Ready most n (pick t f (close f)) p
    by true e = record { bound = i; last = λ m. absurd (omega (arith, leb-true (length f.now + n) most e)) }
    by false e =
        record {
          bound = record {
            over = λ k h. i.over k (rw (get_or-empty (filled f) [] k) at h);
            beyond = λ k h. i.beyond k (omega (arith, simp length-append at h));
          };
          last = λ m. i.beyond (length (filled f)) (simp length-append (omega arith));
        }

module _ (most : ℕ) (x v : List ℕ) (f : Fill) (p : ℕ → ℕ) (h : short_most < length x) (s : Fits x (length f.done) (length f.now)) (e : v
    ≡ long_view x (length f.done) (length f.now))
    (r : Ready most (length x) f p) where
  bound-lay : Bound most (lay x f) (λ k. p k + pick (points k v) 1 0)
  bound-lay =
      record {
        over = λ k m. rw (e, points-long k x (length f.done) (length f.now) h s) (by k m (eqb (length f.done) k) refl);
        beyond = λ k m. rw (e, points-long k x (length f.done) (length f.now) h s, ne_eqb (length f.done) k (omega arith))
            (omega (arith, r.bound.beyond k m));
      }
    where
      by : (k : ℕ) → most < length (get_or (filled (lay x f)) k []) → (t : Bool) → eqb (length f.done) k ≡ t → p k + pick t 1 0 ≡ 1
      by k m true q =
          let z : length f.done ≡ k = eqb-true (length f.done) k q in
          let n : most < length f.now + length x = rw (length-append f.now x) at (rw (← z, get_or-append_seam) at m) in
          rw (← z) (omega (arith, r.last n))
      by k m false q = omega (arith, r.bound.over k (rw (get_or-other f.done (f.now ++ x) f.now [] k (eqb-false (length f.done) k q)) at m))

module _ (most : ℕ) (view value : ℕ → List ℕ) (bs : List (List ℕ)) where
  bound-fills : (n : ℕ) → ((r : ℕ) → r < n → Row bs (view r) (value r)) → Small (fills most view value n)
      → Bound most (fills most view value n) (λ k. pointed k (view_by most view value) n)
  unfolding fills
  bound-fills zero h s = record { over = λ k m. absurd (omega (arith, rw (get_or-empty {A = List ℕ} [] [] k) at m)); beyond = λ k m. refl }
  bound-fills (suc n) h s =
      by (is_short (length_of (view n))) refl s (bound-fills n (λ r l. h r (omega arith)) (small-fills most view value bs n s))
    where
      by : (t : Bool) → is_short (length_of (view n)) ≡ t
          → Small (pick t (fills most view value n) (lay (value n) (room_of most (length_of (view n)) (fills most view value n))))
          → Bound most (fills most view value n) (λ k. pointed k (view_by most view value) n)
          → Bound most (pick t (fills most view value n) (lay (value n) (room_of most (length_of (view n)) (fills most view value n))))
          (λ k. pointed k (view_by most view value) n + pick (points k (view_by most view value n)) 1 0)
      by true e s i =
          record {
            over = λ k m. rw (view-short most view value n e, points-short k (view n) e) (omega (arith, i.over k m));
            beyond = λ k m. rw (view-short most view value n e, points-short k (view n) e) (omega (arith, i.beyond k m));
          }
      by false e s i =
          let c = h n (omega arith) in
          bound-lay most (value n) (view_by most view value n) (room_of most (length_of (view n)) (fills most view value n))
          (λ k. pointed k (view_by most view value) n)
          (omega (arith, leb-false (length_of (view n)) short_most e, c.len)) (fits-lay (value n) (room_of most (length_of (view n)) (fills most view value n)) s)
          (view-placed most view value bs n (λ r l. sym (h r (omega arith)).len) e)
          (subst (λ (m : ℕ). Ready most m (room_of most (length_of (view n)) (fills most view value n)) (λ k. pointed k (view_by most view value) n))
          c.len (ready-room most (length_of (view n)) (fills most view value n) (λ k. pointed k (view_by most view value) n) i))

  bound-out : (n : ℕ) → ((r : ℕ) → r < n → Row bs (view r) (value r)) → length (blocks_out most view value n) < 2 ^ 32
      → length (flat (blocks_out most view value n)) < 2 ^ 32
      → (k : ℕ) → most < length (get_or (blocks_out most view value n) k []) → pointed k (view_by most view value) n ≡ 1
  unfolding blocks_out
  bound-out n h p q k m = by (is_none (long_of (λ r. length_of (view r)) (λ r. length_of (view r)) n)) p q m
    where
      by : (t : Bool) → length (pick t [] (filled (fills most view value n))) < 2 ^ 32 → length (flat (pick t [] (filled (fills most view value n)))) < 2 ^ 32
          → most < length (get_or (pick t [] (filled (fills most view value n))) k []) → pointed k (view_by most view value) n ≡ 1
      by true p q m = absurd (omega arith)
      by false p q m = (bound-fills n h (record { count = omega (arith, simp length-append at p); bytes = q })).over k m

module _ (most : ℕ) (l : Lent) (c : Column) (out : Lent) (r : Room most l c out) where
  -- a block's record says how long the block is
  block-long : (k : ℕ) → k < length (new_lens most l c) → length (get_or (new_blocks most l c) k []) ≡ (block_at (compacted most l c out) k).len
  block-long k h =
      let s = compact-shows most l c out r in
      let d : List ℕ = (compacted most l c out).bytes in
      ap (λ (bs : List (List ℕ)). length (get_or bs k [])) (sym (blocks-back most l c out r))
      ∙ ap length (blocks_at_lem (compacted most l c out) (length (new_lens most l c)) k h)
      ∙ block-length d (block_at (compacted most l c out) k) (omega (arith, s.inside k h, rooms true (compacted most l c out)))

  pub row_back : (i : ℕ) → i < c.rows → row_view (compacted most l c out) (compact_column most l c) i ≡ new_view most l c i
  unfolding views_of
  row_back i h =
      sym (get_d_rows (row_view (compacted most l c out) (compact_column most l c)) c.rows i [] h)
      ∙ ap (λ (vs : List (List ℕ)). get_or vs i []) (views-back most l c out r) ∙ get_d_rows (new_view most l c) c.rows i [] h

  pub compact-bounded : Bounded most (compacted most l c out) (compact_column most l c)
  compact-bounded =
      let m = rooms true out in
      record {
        single = λ k h g.
            pointed-same (compacted most l c out) (compact_column most l c) (new_view most l c) k c.rows row_back
            ∙ bound-out most (row_view l c) (row_shown l c) (blocks_of l c.blocks) c.rows (old_row most l c out r) (bytes_small most l c out r).0
            (bytes_small most l c out r).1 k (rw (block-long k h) g);
      }

pub compacted-bounded : (most : ℕ) (l : Lent) (c : Column) (out : Lent) → why_compact most l c out ≡ accepted → Bounded most (compacted most l c out)
    (compact_column most l c)
compacted-bounded most l c out e = compact-bounded most l c out (room most l c out e)
