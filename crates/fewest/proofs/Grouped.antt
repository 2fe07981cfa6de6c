-- The walk of compaction over rows with its blocks as the values in them: they stand in row order, each block is lawful, and a row points into the block that
-- has its value. Assumes nothing.
use mathlib.Core.Path.{◌≡◌, refl, sym, ap, ◌∙◌}
use mathlib.Core.Bool.{Bool, true, false, ◌||◌}
use mathlib.Core.List.{List, [], ◌∷◌, ◌++◌, map, map-append, append-nil, append_assoc, flatten}
use mathlib.Core.Logic.{by_cases}
use Prim.Native.Nat.{ℕ, zero, suc, ◌+◌, ◌<◌}
use native.Mathlib.Decide.{ℕ_discrete}
use native.Mathlib.Omega.{arith}
use borrow.Author.Tests.{leb-false, le-leb, lt-ltb, eqb-true, eqb-false}
use lib.Dec.{leb, ltb, eqb}
use lib.ListN.{length, get_or, length-append, length-map}
use lib.Seq.{get_or-append_seam}
use Rattle.basis.specs.Pick.{pick}
use Rattle.views.specs.View.{short_most, is_short, length_of}
use Rattle.column.specs.Laid.{flat}
use Rattle.showing.specs.Row.{Row}
use Rattle.laying.specs.WrittenLaws.{flat-snoc}
use Rattle.compaction.specs.Compact.{long_of, view_by}
use Rattle.compaction.proofs.LaidLaws.{view-short}
use Rattle.compaction.specs.Bounded.{points}
use Rattle.compaction.proofs.Kept.{Fill, fill, lay, room_of, fills, Small, small-fills, fits-lay, view-placed}
use Rattle.compaction.proofs.Bound.{points-short, points-long, get_or-other, get_or-empty}
use Rattle.fewest.specs.Lawful.{is_lawful}

-- the blocks closed and the current one, as the values in them
pub record Groups : Type 0 where
  pub done : List (List (List ℕ))
  pub now : List (List ℕ)

abbrev groups : List (List (List ℕ)) → List (List ℕ) → Groups
groups done now = record { done = done; now = now }

abbrev pub grouped : Groups → List (List (List ℕ))
grouped g = g.done ++ g.now ∷ []

abbrev join : List ℕ → Groups → Groups
join x g = groups g.done (g.now ++ x ∷ [])

unfoldable pub room_in : ℕ → ℕ → Groups → Groups
room_in most n g = pick (leb (length (flat g.now) + n) most) g (groups (grouped g) [])

unfoldable pub grouping : ℕ → (ℕ → List ℕ) → (ℕ → List ℕ) → ℕ → Groups
grouping most view value zero = groups [] []
grouping most view value (suc k) = pick (is_short (length_of (view k))) (grouping most view value k)
    (join (value k) (room_in most (length_of (view k)) (grouping most view value k)))

-- ---- in step with the blocks as bytes

abbrev fill_of : Groups → Fill
fill_of g = fill (map flat g.done) (flat g.now)

room-fill : (most n : ℕ) (g : Groups) → fill_of (room_in most n g) ≡ room_of most n (fill_of g)
unfolding room_in room_of flat
room-fill most n g = by (leb (length (flat g.now) + n) most)
  where
    by : (t : Bool) → fill_of (pick t g (groups (grouped g) [])) ≡ pick t (fill_of g) (fill (map flat g.done ++ flat g.now ∷ []) [])
    by true = refl
    by false = rw (map-append flat g.done (g.now ∷ []))

join-fill : (x : List ℕ) (g : Groups) → fill_of (join x g) ≡ lay x (fill_of g)
join-fill x g = rw (flat-snoc g.now x)

pub fill-grouping : (most : ℕ) (view value : ℕ → List ℕ) (n : ℕ) → fill_of (grouping most view value n) ≡ fills most view value n
unfolding grouping fills flat
fill-grouping most view value zero = refl
fill-grouping most view value (suc n) = by (is_short (length_of (view n))) (fill-grouping most view value n)
  where
    by : (t : Bool) → fill_of (grouping most view value n) ≡ fills most view value n
        → fill_of (pick t (grouping most view value n) (join (value n) (room_in most (length_of (view n)) (grouping most view value n))))
        ≡ pick t (fills most view value n) (lay (value n) (room_of most (length_of (view n)) (fills most view value n)))
    by true e = e
    by false e =
        join-fill (value n) (room_in most (length_of (view n)) (grouping most view value n))
        ∙ ap (lay (value n)) (room-fill most (length_of (view n)) (grouping most view value n) ∙ ap (room_of most (length_of (view n))) e)

-- ---- in row order

order-snoc : (bs : List (List (List ℕ))) (b : List (List ℕ)) → flatten (bs ++ b ∷ []) ≡ flatten bs ++ b
unfolding flatten
order-snoc [] b = append-nil b
order-snoc (c ∷ bs) b = rw (order-snoc bs b) (sym (append_assoc c (flatten bs) b))

room-order : (most n : ℕ) (g : Groups) → flatten (grouped (room_in most n g)) ≡ flatten (grouped g)
unfolding room_in
room-order most n g = by (leb (length (flat g.now) + n) most)
  where
    by : (t : Bool) → flatten (grouped (pick t g (groups (grouped g) []))) ≡ flatten (grouped g)
    by true = refl
    by false = order-snoc (grouped g) [] ∙ append-nil (flatten (grouped g))

join-order : (x : List ℕ) (g : Groups) → flatten (grouped (join x g)) ≡ flatten (grouped g) ++ x ∷ []
join-order x g = order-snoc g.done (g.now ++ x ∷ []) ∙ rw (order-snoc g.done g.now) (sym (append_assoc (flatten g.done) g.now (x ∷ [])))

pub order-grouping : (most : ℕ) (view value : ℕ → List ℕ) (n : ℕ) → flatten (grouped (grouping most view value n)) ≡ long_of (λ r. length_of (view r)) value n
unfolding grouping long_of flatten
order-grouping most view value zero = refl
order-grouping most view value (suc n) = by (is_short (length_of (view n))) (order-grouping most view value n)
  where
    by : (t : Bool) → flatten (grouped (grouping most view value n)) ≡ long_of (λ r. length_of (view r)) value n
        → flatten (grouped (pick t (grouping most view value n) (join (value n) (room_in most (length_of (view n)) (grouping most view value n)))))
        ≡ long_of (λ r. length_of (view r)) value n ++ pick t [] (value n ∷ [])
    by true e = rw (append-nil (long_of (λ r. length_of (view r)) value n)) e
    by false e =
        join-order (value n) (room_in most (length_of (view n)) (grouping most view value n))
        ∙ ap (λ (y : List (List ℕ)). y ++ value n ∷ []) (room-order most (length_of (view n)) (grouping most view value n) ∙ e)

-- ---- by place

room-get_or : (most n : ℕ) (g : Groups) (k : ℕ) → get_or (grouped (room_in most n g)) k [] ≡ get_or (grouped g) k []
unfolding room_in
room-get_or most n g k = by (leb (length (flat g.now) + n) most)
  where
    by : (t : Bool) → get_or (grouped (pick t g (groups (grouped g) []))) k [] ≡ get_or (grouped g) k []
    by true = refl
    by false = get_or-empty (grouped g) [] k

-- ---- each block is lawful, and has bytes if it has values

pub record Good (most : ℕ) (b : List (List ℕ)) : Type 0 where
  pub lawful : is_lawful most b ≡ true
  pub full : ltb 0 (length b) ≡ ltb 0 (length (flat b))

good_none : (most : ℕ) → Good most []
unfolding flat
good_none most = record { lawful = rw (le-leb 0 most (omega arith)); full = refl }

lawful-join : (most : ℕ) (x : List ℕ) (g : Groups) → is_lawful most ((room_in most (length x) g).now ++ x ∷ []) ≡ true
unfolding room_in
lawful-join most x g = by (leb (length (flat g.now) + length x) most) refl
  where
    single : (t : Bool) → (t || true) ≡ true
    single true = refl
    single false = refl

    by : (t : Bool) → leb (length (flat g.now) + length x) most ≡ t → is_lawful most ((pick t g (groups (grouped g) [])).now ++ x ∷ []) ≡ true
    by true e = rw (flat-snoc g.now x, length-append (flat g.now) x, e)
    by false e = single (leb (length (flat (x ∷ []))) most)

good-join : (most : ℕ) (x : List ℕ) (g : Groups) → 0 < length x → is_lawful most (g.now ++ x ∷ []) ≡ true → ((k : ℕ) → Good most (get_or (grouped g) k []))
    → (k : ℕ) → Good most (get_or (grouped (join x g)) k [])
good-join most x g h e i k =
    by_cases (ℕ_discrete (length g.done) k)
    (λ q. rw (← q, get_or-append_seam g.done (g.now ++ x ∷ []) [] [])
    (record {
      lawful = e;
      full = rw (flat-snoc g.now x, length-append (flat g.now) x, length-append g.now (x ∷ []))
          (lt-ltb 0 (length g.now + 1) (omega arith) ∙ sym (lt-ltb 0 (length (flat g.now) + length x) (omega arith)));
    }))
    (λ d. rw (get_or-other g.done (g.now ++ x ∷ []) g.now [] k d) (i k))

module _ (most : ℕ) (view value : ℕ → List ℕ) where
  abbrev upto : ℕ → Groups
  upto n = grouping most view value n

  pub good-grouping : (n : ℕ) → ((r : ℕ) → r < n → length (value r) ≡ length_of (view r)) → (k : ℕ) → Good most (get_or (grouped (upto n)) k [])
  unfolding grouping
  good-grouping zero h k = rw (get_or-empty {A = List (List ℕ)} [] [] k) (good_none most)
  good-grouping (suc n) h k = by (is_short (length_of (view n))) refl (good-grouping n (λ r l. h r (omega arith)))
    where
      by : (t : Bool) → is_short (length_of (view n)) ≡ t → ((k : ℕ) → Good most (get_or (grouped (upto n)) k []))
          → Good most (get_or (grouped (pick t (upto n) (join (value n) (room_in most (length_of (view n)) (upto n))))) k [])
      by true e i = i k
      by false e i =
          let s : length (value n) ≡ length_of (view n) = h n (omega arith) in
          rw (← s) (good-join most (value n) (room_in most (length (value n)) (upto n))
          (omega (arith, leb-false (length_of (view n)) short_most e)) (lawful-join most (value n) (upto n))
          (λ j. rw (room-get_or most (length (value n)) (upto n) j) (i j)) k)

-- ---- a row points into the block that has its value

-- what those of the first n rows show whose views f point into block k
abbrev pub into : ℕ → (ℕ → List ℕ) → (ℕ → List ℕ) → ℕ → List (List ℕ)
into k f value zero = []
into k f value (suc n) = into k f value n ++ pick (points k (f n)) (value n ∷ []) []

join-into : (x : List ℕ) (g : Groups) (b k : ℕ) → b ≡ length g.done → get_or (grouped g) k [] ++ pick (eqb b k) (x ∷ []) [] ≡ get_or (grouped (join x g)) k []
join-into x g b k q = rw q (by (eqb (length g.done) k) refl)
  where
    by : (t : Bool) → eqb (length g.done) k ≡ t → get_or (grouped g) k [] ++ pick t (x ∷ []) [] ≡ get_or (grouped (join x g)) k []
    by true e =
        let z : length g.done ≡ k = eqb-true (length g.done) k e in
        rw (← z, get_or-append_seam g.done g.now [] [], get_or-append_seam g.done (g.now ++ x ∷ []) [] [])
    by false e =
        append-nil (get_or (grouped g) k []) ∙ get_or-other g.done g.now (g.now ++ x ∷ []) [] k (eqb-false (length g.done) k e)

module _ (most : ℕ) (view value : ℕ → List ℕ) (bs : List (List ℕ)) where
  abbrev next : ℕ → Groups
  next n = room_in most (length_of (view n)) (grouping most view value n)

  -- the walk's place is the group's
  block-next : (n : ℕ) → length (room_of most (length_of (view n)) (fills most view value n)).done ≡ length (next n).done
  block-next n =
      ap (λ (f : Fill). length (room_of most (length_of (view n)) f).done) (sym (fill-grouping most view value n))
      ∙ ap (λ (f : Fill). length f.done) (sym (room-fill most (length_of (view n)) (grouping most view value n)))
      ∙ length-map (next n).done flat

  pub into-grouping : (n : ℕ) → ((r : ℕ) → r < n → Row bs (view r) (value r)) → Small (fills most view value n)
      → (k : ℕ) → into k (view_by most view value) value n ≡ get_or (grouped (grouping most view value n)) k []
  unfolding grouping fills
  into-grouping zero h s k = sym (get_or-empty [] [] k)
  into-grouping (suc n) h s k =
      by (is_short (length_of (view n))) refl s (into-grouping n (λ r l. h r (omega arith)) (small-fills most view value bs n s) k)
    where
      by : (t : Bool) → is_short (length_of (view n)) ≡ t
          → Small (pick t (fills most view value n) (lay (value n) (room_of most (length_of (view n)) (fills most view value n))))
          → into k (view_by most view value) value n ≡ get_or (grouped (grouping most view value n)) k []
          → into k (view_by most view value) value n ++ pick (points k (view_by most view value n)) (value n ∷ []) []
          ≡ get_or (grouped (pick t (grouping most view value n) (join (value n) (next n)))) k []
      by true e s i = rw (view-short most view value n e, points-short k (view n) e) (append-nil (into k (view_by most view value) value n) ∙ i)
      by false e s i =
          let c = h n (omega arith) in
          let f : Fill = room_of most (length_of (view n)) (fills most view value n) in
          let p : points k (view_by most view value n) ≡ eqb (length f.done) k =
          rw (view-placed most view value bs n (λ r l. sym (h r (omega arith)).len) e)
          (points-long k (value n) (length f.done) (length f.now) (omega (arith, leb-false (length_of (view n)) short_most e, c.len))
          (fits-lay (value n) f s)) in
          rw (p, i, ← room-get_or most (length_of (view n)) (grouping most view value n) k) (join-into (value n) (next n) (length f.done) k (block-next n))
