-- Laws of the walk over lengths: one value more, one row more, and the numbers that the code keeps. Assumes nothing.
use Rattle.std.specs.Prelude.{◌≡◌, Bool, List, [], ◌∷◌, ◌++◌, ℕ, suc, ◌+◌, ◌*◌, ◌≤◌, ◌<◌, length, set, drop}
use Rattle.std.proofs.Math.Path.{refl, ap}
use Rattle.std.proofs.Common.{◌∙◌, append-nil, add-one, arith, leb-true, leb-false, le-leb, length-append, take-take}
use Rattle.std.proofs.Math.Bool.{true, false}
use Rattle.std.proofs.lemmas.Bool.{lt-leb}
use Rattle.std.proofs.Math.Dec.{leb}
use Rattle.std.proofs.Math.Seq.{paste}
use Rattle.basis.specs.Pick.{pick, if_le, le_yes, le-no}
use Rattle.views.specs.View.{view_size, short_most, length_of, view_at, long_view}
use Rattle.compaction.specs.declared.Stand.{Stand}
use Rattle.compaction.specs.Cut.{Cut, cut, shut, add, room_for, cut_from, cut_all}
use Rattle.compaction.specs.Compact.{long_of}
use Rattle.compaction.specs.Steps.{stand, stand_of, room_stand, add_stand, row_step, closed_at, recorded_at, LongPut, ShortPut, RowPut}
use Rattle.laying.specs.Written.{total}
use Rattle.laying.specs.WrittenLaws.{total-append, total-one}

-- one value more
from-snoc : (most : ℕ) (ns : List ℕ) (n : ℕ) (c : Cut) → cut_from most (ns ++ n ∷ []) c ≡ add n (room_for most n (cut_from most ns c))
unfolding cut_from
from-snoc most [] n c = refl
from-snoc most (m ∷ ns) n c = from-snoc most ns n (add m (room_for most m c))

pub cut-snoc : (most : ℕ) (ns : List ℕ) (n : ℕ) → cut_all most (ns ++ n ∷ []) ≡ add n (room_for most n (cut_all most ns))
unfolding cut_all
cut-snoc most ns n = from-snoc most ns n (cut [] 0)

-- by the code's numbers
pub stand-room : (most n : ℕ) (c : Cut) → stand_of (room_for most n c) ≡ room_stand most n (stand_of c)
unfolding stand_of room_for room_stand if_le
stand-room most n c = by (leb (c.fill + n) most)
  where
    by : (t : Bool) → stand_of (pick t c (shut c)) ≡ pick t (stand_of c) (stand (length c.done + 1) (total c.done + c.fill) 0)
    by true = refl
    by false = rw (length-append c.done (c.fill ∷ []), total-append c.done (c.fill ∷ []), total-one)

pub stand-add : (n : ℕ) (c : Cut) → stand_of (add n c) ≡ add_stand n (stand_of c)
unfolding stand_of
stand-add n c = refl

-- one row more
module _ (most : ℕ) (len : ℕ → ℕ) (k : ℕ) where
  abbrev before : List ℕ
  before = long_of len len k

  pub cut_short : len k ≤ short_most → long_of len len (suc k) ≡ long_of len len k
  unfolding long_of
  cut_short h = rw (le-leb (len k) short_most h) (append-nil (long_of len len k))

  pub cut-long : short_most < len k → cut_all most (long_of len len (suc k)) ≡ add (len k) (room_for most (len k) (cut_all most (long_of len len k)))
  unfolding long_of
  cut-long h = rw (lt-leb (len k) short_most h) (cut-snoc most (long_of len len k) (len k))

  pub stand-row : stand_of (cut_all most (long_of len len (suc k))) ≡ row_step most (len k) (stand_of (cut_all most (long_of len len k)))
  unfolding row_step if_le
  stand-row = by (leb (len k) short_most) refl
    where
      by : (t : Bool) → leb (len k) short_most ≡ t
          → stand_of (cut_all most (long_of len len (suc k))) ≡ pick t (stand_of (cut_all most (long_of len len k)))
          (add_stand (len k) (room_stand most (len k) (stand_of (cut_all most (long_of len len k)))))
      by true e = rw (cut_short (leb-true (len k) short_most e))
      by false e =
          rw (
            cut-long (leb-false (len k) short_most e),
            stand-add (len k) (room_for most (len k) (cut_all most (long_of len len k))),
            stand-room most
                (len k) (cut_all most (long_of len len k)),
          )

pub stand-next : (most : ℕ) (len : ℕ → ℕ) (k n : ℕ) (s t : Stand) → n ≡ len k → s ≡ stand_of (cut_all most (long_of len len k)) → t ≡ row_step most n s
    → t ≡ stand_of (cut_all most (long_of len len (k + 1)))
stand-next most len k n s t e h g = rw (add-one k, stand-row most len k, ← e, ← h) g

-- where the walk begins, by its numbers
pub stand-start : (s : Stand) → (s.closed ≡ 0) × ((s.base ≡ 0) × (s.fill ≡ 0)) → s ≡ stand 0 0 0
stand-start s h = λ i. stand (h.0 i) (h.1.0 i) (h.1.1 i)

-- the numbers of the walk before the first row
pub stand-none : (most : ℕ) (len : ℕ → ℕ) → stand 0 0 0 ≡ stand_of (cut_all most (long_of len len 0))
unfolding stand_of cut_all cut_from long_of total
stand-none most len = refl

-- how the numbers grow
pub record Grows (n : ℕ) (s t : Stand) : Type 0 where
  pub bytes : t.base + t.fill ≤ s.base + s.fill + n
  pub blocks : t.closed ≤ s.closed + 1

pub step-grows : (most n : ℕ) (s : Stand) → Grows n s (row_step most n s)
unfolding row_step room_stand if_le
step-grows most n s = by (leb n short_most) (leb (s.fill + n) most)
  where
    by : (t u : Bool) → Grows n s (pick t s (add_stand n (pick u s (stand (s.closed + 1) (s.base + s.fill) 0))))
    by true u = record { bytes = omega arith; blocks = omega arith }
    by false true = record { bytes = omega arith; blocks = omega arith }
    by false false = record { bytes = omega arith; blocks = omega arith }

pub next_grows : (most n : ℕ) (s t : Stand) → t ≡ row_step most n s → Grows n s t
next_grows most n s t e = rw e (step-grows most n s)

-- ---- the code's steps, test by test
module _ (most n : ℕ) (s : Stand) where
  pub step-short : n ≤ short_most → s ≡ row_step most n s
  unfolding row_step
  step-short h = le_yes n short_most s (add_stand n (room_stand most n s)) s h refl

  pub room_in_lem : s.fill + n ≤ most → s ≡ room_stand most n s
  unfolding room_stand
  room_in_lem h = le_yes (s.fill + n) most s (stand (s.closed + 1) (s.base + s.fill) 0) s h refl

  pub room-over : most < s.fill + n → stand (s.closed + 1) (s.base + s.fill) 0 ≡ room_stand most n s
  unfolding room_stand
  room-over h = le-no (s.fill + n) most s (stand (s.closed + 1) (s.base + s.fill) 0) (stand (s.closed + 1) (s.base + s.fill) 0) h refl

  pub step-long : (t u : Stand) → short_most < n → t ≡ room_stand most n s → u ≡ add_stand n t → u ≡ row_step most n s
  unfolding row_step
  step-long t u h e f = le-no n short_most s (add_stand n (room_stand most n s)) u h (f ∙ ap (add_stand n) e)

  -- a record is written where a long value closes the block
  pub recorded-over : (x : ℕ) (l : List ℕ) → short_most < n → most < s.fill + n → set l s.closed x ≡ recorded_at most n s x l
  unfolding recorded_at closed_at
  recorded-over x l h k =
      le-no n short_most l (closed_at most n s x l) (set l s.closed x) h (le-no (s.fill + n) most l (set l s.closed x) (set l s.closed x) k refl)

  pub recorded-none : (x : ℕ) (l : List ℕ) → (short_most < n → s.fill + n ≤ most) → l ≡ recorded_at most n s x l
  unfolding recorded_at closed_at if_le
  recorded-none x l h = by (leb n short_most) refl
    where
      by : (t : Bool) → leb n short_most ≡ t → l ≡ pick t l (if_le (s.fill + n) most l (set l s.closed x))
      by true e = refl
      by false e = le_yes (s.fill + n) most l (set l s.closed x) l (h (leb-false n short_most e)) refl

-- where the value goes: the same place in the data, perhaps one block further
pub record Roomed (s t : Stand) : Type 0 where
  pub place : t.base + t.fill ≡ s.base + s.fill
  pub offset : t.fill ≤ s.fill
  pub blocks : t.closed ≤ s.closed + 1

pub room-same : (most n : ℕ) (s : Stand) → Roomed s (room_stand most n s)
unfolding room_stand if_le
room-same most n s = by (leb (s.fill + n) most)
  where
    by : (t : Bool) → Roomed s (pick t s (stand (s.closed + 1) (s.base + s.fill) 0))
    by true = record { place = refl; offset = omega arith; blocks = omega arith }
    by false = record { place = omega arith; offset = omega arith; blocks = omega arith }

pub room-kept : (most n : ℕ) (s t : Stand) → t ≡ room_stand most n s → Roomed s t
room-kept most n s t e = rw e (room-same most n s)

-- ---- a row's writes, from those of the parts
pub long-put : (most r : ℕ) (x : List ℕ) (s : Stand) (vs bs : List ℕ) (t u : Stand) (vs' bs' : List ℕ) → t ≡ room_stand most (length x) s
    → u ≡ add_stand (length x) t
    → vs' ≡ paste vs (view_size * r) (long_view x t.closed t.fill) view_size → bs' ≡ paste bs (t.base + t.fill) x (length x)
    → LongPut most r x s vs bs u vs' bs'
long-put most r x s vs bs t u vs' bs' e f v b =
    let g = room-kept most (length x) s t e in
    record { next = f ∙ ap (add_stand (length x)) e; views = rw (← e) v; bytes = rw g.place at b }

pub view-paste : (d s : List ℕ) (o r : ℕ) → paste d o (drop (view_size * r) s) view_size ≡ paste d o (view_at s r) view_size
unfolding view_at
view-paste d s o r = rw (take-take view_size view_size (drop (view_size * r) s) (omega arith))

module _ (most r : ℕ) (v x : List ℕ) (s : Stand) (vs bs : List ℕ) (t : Stand) (vs' bs' : List ℕ) where
  pub row-short : length_of v ≤ short_most → ShortPut r v s vs bs t vs' bs' → RowPut most r v x s vs bs t vs' bs'
  row-short h p = rw (le-leb (length_of v) short_most h) p

  pub row-long : (y : List ℕ) → short_most < length_of v → y ≡ x → LongPut most r y s vs bs t vs' bs' → RowPut most r v x s vs bs t vs' bs'
  row-long y h e p = rw (lt-leb (length_of v) short_most h, ← e) p
