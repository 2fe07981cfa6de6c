-- The second pass: one row more, and the last block. Assumes nothing.
use Rattle.std.specs.Prelude.{◌≡◌, Bool, ℕ, zero, suc, ◌+◌, ◌*◌, ◌≤◌, ◌<◌, leb, eqb, set}
use Rattle.std.proofs.Math.Path.{refl, ap}
use Rattle.std.proofs.Common.{sym, ◌∙◌, subst, zero-add, add-one, arith, leb-true, leb-false, eqb-true, length-append}
use Rattle.std.proofs.Math.Bool.{true, false}
use mathlib.Core.List.{List, [], ◌∷◌, ◌++◌, append-nil}
use Rattle.std.proofs.Math.Logic.{by_cases}
use Rattle.std.proofs.Math.Decide.{ℕ_discrete}
use Rattle.std.proofs.lemmas.Bool.{eqb-false}
use Rattle.std.proofs.Math.ListN.{length}
use Rattle.std.proofs.Math.Seq.{paste}
use Rattle.basis.specs.Pick.{pick, if_le}
use Rattle.views.specs.View.{view_size, short_most, is_short, length_of, long_view}
use Rattle.column.specs.Laid.{flat}
use Rattle.compaction.specs.declared.Stand.{Stand}
use Rattle.compaction.specs.Cut.{Cut, cut, shut, add, room_for, cut_from, cut_all, cut_lens}
use Rattle.compaction.specs.Compact.{long_of, placed_by, view_by}
use Rattle.compaction.specs.Steps.{stand, stand_of, stand_at, room_stand, add_stand, row_step, closed_at, recorded_at, LongPut, ShortPut, RowPut, TablePut, put_by, Laid, CutTabled}
use Rattle.compaction.proofs.CutLaws.{cut-snoc, stand-room, stand-row}
use Rattle.laying.specs.Written.{front, put_rows, starts_from, total}
use Rattle.laying.specs.WrittenLaws.{flat-snoc, front-paste, front-set, length-starts, starts-snoc, total-append, total-one}

-- the walk keeps every byte
room-total : (most n : ℕ) (c : Cut) → total (room_for most n c).done + (room_for most n c).fill ≡ total c.done + c.fill
unfolding room_for
room-total most n c = by (leb (c.fill + n) most)
  where
    by : (t : Bool) → total (pick t c (shut c)).done + (pick t c (shut c)).fill ≡ total c.done + c.fill
    by true = refl
    by false = rw (total-append c.done (c.fill ∷ []), total-one) (omega arith)

from-total : (most : ℕ) (ns : List ℕ) (c : Cut) → total (cut_from most ns c).done + (cut_from most ns c).fill ≡ total c.done + c.fill + total ns
unfolding cut_from total
from-total most [] c = omega arith
from-total most (n ∷ ns) c = from-total most ns (add n (room_for most n c)) ∙ omega (arith, room-total most n c)

pub cut-total : (most : ℕ) (ns : List ℕ) → total (cut_all most ns).done + (cut_all most ns).fill ≡ total ns
unfolding cut_all total
cut-total most ns = from-total most ns (cut [] 0) ∙ omega arith

pub stand-total : (most : ℕ) (ns : List ℕ) → (stand_of (cut_all most ns)).base + (stand_of (cut_all most ns)).fill ≡ total ns
unfolding stand_of
stand-total most ns = cut-total most ns

-- ---- the long values of one more row

module _ {A : Type 0} (len : ℕ → ℕ) (f : ℕ → A) (k : ℕ) where
  pub long-short : is_short (len k) ≡ true → long_of len f (suc k) ≡ long_of len f k
  unfolding long_of
  long-short e = rw e (append-nil (long_of len f k))

  pub long-long : is_short (len k) ≡ false → long_of len f (suc k) ≡ long_of len f k ++ f k ∷ []
  unfolding long_of
  long-long e = rw e

-- their bytes are as many as their lengths say
pub flat-total : (len : ℕ → ℕ) (value : ℕ → List ℕ) (n : ℕ) → ((r : ℕ) → r < n → length (value r) ≡ len r) → length (flat (long_of len value n))
    ≡ total (long_of len len n)
unfolding long_of flat total
flat-total len value zero h = refl
flat-total len value (suc n) h = by (flat-total len value n (λ r l. h r (omega arith))) (is_short (len n))
  where
    by : length (flat (long_of len value n)) ≡ total (long_of len len n)
        → (t : Bool) → length (flat (long_of len value n ++ pick t [] (value n ∷ []))) ≡ total (long_of len len n ++ pick t [] (len n ∷ []))
    by below true = rw (append-nil (long_of len value n), append-nil (long_of len len n)) below
    by below false =
        rw (
          flat-snoc (long_of len value n) (value n),
          length-append (flat (long_of len value n)) (value n),
          total-append (long_of len len n)
              (len n ∷ []),
          total-one,
          below,
          h n (omega arith),
        )

-- ---- the records of the blocks closed

pub shut-starts : (c : Cut) (d : List ℕ) → length c.done < length d → set (front d (starts_from 0 c.done)) (length c.done) (total c.done)
    ≡ front d (starts_from 0 (shut c).done)
shut-starts c d h =
    let z : starts_from 0 (c.done ++ c.fill ∷ []) ≡ starts_from 0 c.done ++ total c.done ∷ [] = starts-snoc 0 c.done c.fill
    ∙ rw (zero-add (total c.done)) in
    front-set d (starts_from 0 c.done) (length c.done) (total c.done) (sym (length-starts 0 c.done)) (rw (length-starts 0 c.done) h)
    ∙ ap (front d) (sym z)

pub shut-lens : (c : Cut) (d : List ℕ) → length c.done < length d → set (front d c.done) (length c.done) c.fill ≡ front d (shut c).done
shut-lens c d h = front-set d c.done (length c.done) c.fill refl h

module _ (most n : ℕ) (c : Cut) (s : Stand) (e : s ≡ stand_of c) where
  pub closed-starts : (d l : List ℕ) → length c.done < length d → l ≡ front d (starts_from 0 c.done)
      → closed_at most n s s.base l ≡ front d (starts_from 0 (room_for most n c).done)
  unfolding closed_at if_le room_for stand_of
  closed-starts d l h g = rw (e, g) (by (leb (c.fill + n) most))
    where
      by : (t : Bool) → pick t (front d (starts_from 0 c.done)) (set (front d (starts_from 0 c.done)) (length c.done) (total c.done))
          ≡ front d (starts_from 0 (pick t c (shut c)).done)
      by true = refl
      by false = shut-starts c d h

  pub closed-lens : (d l : List ℕ) → length c.done < length d → l ≡ front d c.done → closed_at most n s s.fill l ≡ front d (room_for most n c).done
  unfolding closed_at if_le room_for stand_of
  closed-lens d l h g = rw (e, g) (by (leb (c.fill + n) most))
    where
      by : (t : Bool) → pick t (front d c.done) (set (front d c.done) (length c.done) c.fill) ≡ front d (pick t c (shut c)).done
      by true = refl
      by false = shut-lens c d h

closed_is : (c : Cut) → (stand_of c).closed ≡ length c.done
unfolding stand_of
closed_is c = refl

cut-is : (most : ℕ) (len : ℕ → ℕ) (k : ℕ) → is_short (len k) ≡ false → cut_all most (long_of len len (suc k))
    ≡ add (len k) (room_for most (len k) (cut_all most (long_of len len k)))
cut-is most len k e = rw (long-long len len k e) (cut-snoc most (long_of len len k) (len k))

-- ---- one row more

module _ (most : ℕ) (view value : ℕ → List ℕ) (k : ℕ) where
  pub view-short : is_short (length_of (view k)) ≡ true → view_by most view value k ≡ view k
  unfolding view_by
  view-short e = rw e

  pub view-long : is_short (length_of (view k)) ≡ false
      → view_by most view value k ≡ placed_by (room_for most (length_of (view k)) (cut_all most (long_of (λ r. length_of (view r)) (λ r. length_of (view r))
      k))) (value k)
  unfolding view_by
  view-long e = rw e

module _ (most : ℕ) (view value : ℕ → List ℕ) (vs₀ bs₀ : List ℕ) (k : ℕ) (vs bs : List ℕ) (s t : Stand) (vs' bs' : List ℕ)
    (sized : (r : ℕ) → r < suc k → length (value r) ≡ length_of (view r)) (l : Laid most view value vs₀ bs₀ k vs bs s) where
  abbrev len : ℕ → ℕ
  len r = length_of (view r)

  abbrev so_far : Cut
  so_far = cut_all most (long_of len len k)

  laid-short : is_short (len k) ≡ true → ShortPut k (view k) s vs bs t vs' bs' → Laid most view value vs₀ bs₀ (suc k) vs' bs' t
  unfolding put_rows
  laid-short e p =
      record {
        views = rw (view-short most view value k e, ← l.views) p.views;
        bytes = rw (long-short len value k e) (p.bytes ∙ l.bytes);
        stand = rw (long-short len len k e) (p.next ∙ l.stand);
      }

  place_is : s.base + s.fill ≡ length (flat (long_of len value k))
  place_is = rw l.stand (stand-total most (long_of len len k) ∙ sym (flat-total len value k (λ r h. sized r (omega arith))))

  room-is : room_stand most (length (value k)) s ≡ stand_of (room_for most (len k) so_far)
  room-is = rw (sized k (omega arith), l.stand) (sym (stand-room most (len k) so_far))

  laid-long : is_short (len k) ≡ false → LongPut most k (value k) s vs bs t vs' bs' → Laid most view value vs₀ bs₀ (suc k) vs' bs' t
  unfolding put_rows stand_of
  laid-long e p =
      let n : length (value k) ≡ len k = sized k (omega arith) in
      record {
        views = rw (view-long most view value k e, ← l.views)
            (p.views ∙ ap (λ (u : Stand). paste vs (view_size * k) (long_view (value k) u.closed u.fill) view_size) room-is);
        bytes = rw (long-long len value k e, flat-snoc (long_of len value k) (value k))
            (p.bytes ∙ ap (λ (b : List ℕ). paste b (s.base + s.fill) (value k) (length (value k))) l.bytes
            ∙ front-paste bs₀ (flat (long_of len value k)) (value k) (s.base + s.fill) place_is);
        stand = rw (cut-is most len k e) (p.next ∙ rw n (ap (add_stand (len k)) (rw n at room-is)));
      }

  pub laid_next : RowPut most k (view k) (value k) s vs bs t vs' bs' → Laid most view value vs₀ bs₀ (suc k) vs' bs' t
  laid_next p = by (is_short (len k)) refl p
    where
      by : (u : Bool) → is_short (len k) ≡ u → put_by u most k (view k) (value k) s vs bs t vs' bs' → Laid most view value vs₀ bs₀ (suc k) vs' bs' t
      by true e p = laid-short e p
      by false e p = laid-long e p

pub laid_none : (most : ℕ) (view value : ℕ → List ℕ) (vs bs : List ℕ) → Laid most view value vs bs 0 vs bs (stand 0 0 0)
unfolding put_rows long_of flat cut_all cut_from stand_of total
laid_none most view value vs bs = record { views = refl; bytes = refl; stand = refl }

-- ---- one row more of the table

pub tabled-none : (most : ℕ) (view : ℕ → List ℕ) (ss ns : List ℕ) → CutTabled most view ss ns 0 ss ns (stand 0 0 0)
unfolding long_of cut_all cut_from starts_from stand_of total
tabled-none most view ss ns = record { starts = refl; lens = refl; stand = refl }

module _ (most : ℕ) (view : ℕ → List ℕ) (ss₀ ns₀ : List ℕ) (k : ℕ) (ss ns : List ℕ) (s t : Stand) (ss' ns' : List ℕ) (l : CutTabled most view ss₀ ns₀ k
    ss ns s) where
  abbrev size : ℕ → ℕ
  size r = length_of (view r)

  abbrev before : Cut
  before = cut_all most (long_of size size k)

  pub tabled-next : (short_most < size k → (s.closed < length ss₀) × (s.closed < length ns₀)) → TablePut most (size k) s ss ns t ss' ns'
      → CutTabled most view ss₀ ns₀ (suc k) ss' ns' t
  unfolding recorded_at if_le
  tabled-next room p = by (is_short (size k)) refl p.starts p.lens
    where
      by : (u : Bool) → is_short (size k) ≡ u → ss' ≡ pick u ss (closed_at most (size k) s s.base ss) → ns' ≡ pick u ns (closed_at most (size k) s s.fill ns)
          → CutTabled most view ss₀ ns₀ (suc k) ss' ns' t
      by true e f g =
          record {
            starts = rw (long-short size size k e) (f ∙ l.starts);
            lens = rw (long-short size size k e) (g ∙ l.lens);
            stand = rw (stand-row most size k, ← l.stand) p.next;
          }
      by false e f g =
          let r = room (leb-false (size k) short_most e) in
          let z : s.closed ≡ length before.done = ap (λ (u : Stand). u.closed) l.stand ∙ closed_is before in
          record {
            starts = rw (cut-is most size k e) (f ∙ closed-starts most (size k) before s l.stand ss₀ ss (rw z at r.0) l.starts);
            lens = rw (cut-is most size k e) (g ∙ closed-lens most (size k) before s l.stand ns₀ ns (rw z at r.1) l.lens);
            stand = rw (stand-row most size k, ← l.stand) p.next;
          }

-- ---- the walk's numbers rise

pub record Rises (n : ℕ) (s t : Stand) : Type 0 where
  pub blocks : s.closed ≤ t.closed
  pub bytes : s.base + s.fill ≤ t.base + t.fill
  pub long : short_most < n → s.base + s.fill + n ≡ t.base + t.fill

step-rises : (most n : ℕ) (s : Stand) → Rises n s (row_step most n s)
unfolding row_step room_stand if_le
step-rises most n s = by (leb n short_most) refl (leb (s.fill + n) most)
  where
    by : (t : Bool) → leb n short_most ≡ t → (u : Bool) → Rises n s (pick t s (add_stand n (pick u s (stand (s.closed + 1) (s.base + s.fill) 0))))
    by true e u = record { blocks = omega arith; bytes = omega arith; long = λ h. absurd (omega (arith, leb-true)) }
    by false e true = record { blocks = omega arith; bytes = omega arith; long = λ h. omega arith }
    by false e false = record { blocks = omega arith; bytes = omega arith; long = λ h. omega arith }

module _ (most : ℕ) (view : ℕ → List ℕ) where
  stand-rises : (k : ℕ) → Rises (length_of (view k)) (stand_at most view k) (stand_at most view (suc k))
  stand-rises k = rw (stand-row most (λ r. length_of (view r)) k) (step-rises most (length_of (view k)) (stand_at most view k))

  -- the numbers before row k, and with a long one at it, are within those after n rows
  pub record Below (k n : ℕ) : Type 0 where
    pub blocks : (stand_at most view k).closed ≤ (stand_at most view n).closed
    pub bytes : (stand_at most view k).base + (stand_at most view k).fill ≤ (stand_at most view n).base + (stand_at most view n).fill

  pub stand-below : (k n : ℕ) → k ≤ n → Below k n
  stand-below k zero h = let e : k ≡ 0 = omega arith in rw e (record { blocks = omega arith; bytes = omega arith })
  stand-below k (suc n) h =
      by_cases (ℕ_discrete k (suc n))
      (λ e. rw e (record { blocks = omega arith; bytes = omega arith }))
      (λ d.
      let b = stand-below k n (omega arith) in
      let r = stand-rises n in
      record { blocks = omega arith; bytes = omega arith })

  pub long-below : (k n : ℕ) → k < n → short_most < length_of (view k) → (stand_at most view k).base + (stand_at most view k).fill + length_of (view k)
      ≤ (stand_at most view n).base + (stand_at most view n).fill
  long-below k n h g = let b = stand-below (suc k) n h in let r = stand-rises k in omega (arith, r.long g)

-- ---- the last block

none-long : (len : ℕ → ℕ) (n : ℕ) → total (long_of len len n) ≡ 0 → long_of len len n ≡ []
unfolding long_of
none-long len zero h = refl
none-long len (suc n) h = by (none-long len n) (is_short (len n)) refl h
  where
    by : (total (long_of len len n) ≡ 0 → long_of len len n ≡ []) → (t : Bool) → is_short (len n) ≡ t → total (long_of len len n ++ pick t [] (len n ∷ [])) ≡ 0
        → long_of len len n ++ pick t [] (len n ∷ []) ≡ []
    by more true e h = append-nil (long_of len len n) ∙ more (rw (append-nil (long_of len len n)) at h)
    by more false e h = absurd (omega (arith, leb-false (len n) short_most e, rw (total-append (long_of len len n) (len n ∷ []), total-one) at h))

some-blocks : (most : ℕ) (ns : List ℕ) → (total ns ≡ 0 → ⊥) → cut_lens most ns ≡ (shut (cut_all most ns)).done
unfolding cut_lens total
some-blocks most [] h = absurd (h refl)
some-blocks most (n ∷ ns) h = refl

module _ (most : ℕ) (view : ℕ → List ℕ) (n : ℕ) where
  abbrev lens-of : List ℕ
  lens-of = long_of (λ r. length_of (view r)) (λ r. length_of (view r)) n

  total_of : (stand_at most view n).base + (stand_at most view n).fill ≡ total lens-of
  total_of = stand-total most lens-of

  pub lens_none : (stand_at most view n).base + (stand_at most view n).fill ≡ 0 → (cut_lens most lens-of ≡ []) × ((cut_all most lens-of).done ≡ [])
  unfolding cut_lens cut_all cut_from
  lens_none h = let e = none-long (λ r. length_of (view r)) n (sym total_of ∙ h) in (rw e, rw e)

  pub lens-some : ((stand_at most view n).base + (stand_at most view n).fill ≡ 0 → ⊥) → cut_lens most lens-of ≡ (shut (cut_all most lens-of)).done
  lens-some h = some-blocks most lens-of (λ e. h (total_of ∙ e))

  -- how many blocks, by the code's numbers
  pub count-blocks : (s : Stand) → s ≡ stand_at most view n → length (cut_lens most lens-of) ≡ pick (eqb (s.base + s.fill) 0) 0 (s.closed + 1)
  count-blocks s e = by (eqb (s.base + s.fill) 0) refl
    where
      by : (t : Bool) → eqb (s.base + s.fill) 0 ≡ t → length (cut_lens most lens-of) ≡ pick t 0 (s.closed + 1)
      by true h = ap length (lens_none (rw e at (eqb-true (s.base + s.fill) 0 h))).0
      by false h =
          rw (
            lens-some (rw e at (eqb-false (s.base + s.fill) 0 h)),
            length-append (cut_all most lens-of).done ((cut_all most lens-of).fill ∷ []),
            e,
            closed_is (cut_all most lens-of),
          )

-- the blocks have all bytes
pub lens-total : (most : ℕ) (ns : List ℕ) → total (cut_lens most ns) ≡ total ns
unfolding cut_lens total
lens-total most [] = refl
lens-total most (n ∷ ns) =
    let c : Cut = cut_all most (n ∷ ns) in
    total-append c.done (c.fill ∷ []) ∙ rw total-one (cut-total most (n ∷ ns))

-- by the code's numbers
pub tabled_step : (most : ℕ) (view : ℕ → List ℕ) (ss₀ ns₀ : List ℕ) (k n : ℕ) (ss ns : List ℕ) (s t : Stand) (ss' ns' : List ℕ)
    → n ≡ length_of (view k) → CutTabled most view ss₀ ns₀ k ss ns s
    → (short_most < length_of (view k) → (s.closed < length ss₀) × (s.closed < length ns₀)) → TablePut most n s ss ns t ss' ns'
    → CutTabled most view ss₀ ns₀ (k + 1) ss' ns' t
tabled_step most view ss₀ ns₀ k n ss ns s t ss' ns' e l room p =
    rw (add-one k) (tabled-next most view ss₀ ns₀ k ss ns s t ss' ns' l room (subst (λ (m : ℕ). TablePut most m s ss ns t ss' ns') e p))
