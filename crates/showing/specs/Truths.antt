-- A row that shows a value is reachable, and true if the value is of the kind; a true view shows what it shows. Assumes nothing.
use Rattle.std.specs.Prelude.{◌≡◌, Bool, ◌&&◌, eqb, drop, get_or}
use Rattle.std.proofs.Math.Path.{refl, sym, ap}
use Rattle.std.proofs.Common.{◌∙◌, true≢false, arith, length-drop}
use Rattle.std.proofs.Math.Bool.{true, false}
use mathlib.Core.List.{List, [], ◌∷◌}
use Prim.Native.Nat.{ℕ, zero, suc, ◌+◌, ◌≤◌, ◌<◌}
use borrow.Author.Tests.{leb-true, leb-false, le-leb, lt-leb, ltb-true, ltb-false, eqb-true}
use Rattle.std.proofs.Math.Dec.{ltb}
use Rattle.std.proofs.Math.ListN.{length, take}
use Rattle.std.proofs.Math.Seq.{length-take-le}
use Rattle.basis.specs.Pick.{pick}
use Rattle.words.specs.Words.{pad}
use Rattle.words.specs.ListLaws.{pad-short, take-pad}
use Rattle.order.specs.Order.{same}
use Rattle.order.proofs.OrderLaws.{same_self, same_true}
use Rattle.views.specs.View.{view_size, short_most, is_short, length_of, prefix_of, body_of, block_of, offset_of}
use Rattle.column.specs.declared.Kind.{Kind}
use Rattle.column.specs.declared.Reach.TheVariants.{Inside}
use Rattle.column.specs.declared.Spot.{Spot}
use Rattle.column.specs.declared.Spot.TheVariants as spot
use Rattle.column.specs.Lent.{Lent, block_at, data_room, in_data}
use Rattle.column.specs.Meaning.{part, bytes_of, blocks_of, shown}
use Rattle.column.specs.Spot.{spot_in}
use Rattle.column.proofs.ReachLaws.{reach-short, reach-long}
use Rattle.column.proofs.SpotLaws.{Stood, in-views, in-data, no_block, outside, stood}
use Rattle.column.specs.Truth.{reach_by, reach_of, is_inside, reachable, zeros, honest, of_kind, is_true}
use Rattle.showing.specs.Row.{Row, row-short, row-long}
use Rattle.showing.specs.Rooms.{rooms, both}
use Rattle.showing.specs.Stores.{blocks_at_lem, blocks-past, block-most, block-length}

-- the first n blocks lie in the data
abbrev pub AllIn : Lent → ℕ → Type 0
AllIn l n = (k : ℕ) → k < n → (block_at l k).start + (block_at l k).len ≤ data_room l

module _ (l : Lent) (n : ℕ) {v x : List ℕ} (inside : AllIn l n) (r : Row (blocks_of l n) v x) where
  row-reach : reach_of l n v ≡ Inside
  unfolding in_data
  row-reach = by (is_short (length x)) refl
    where
      in_block : short_most < length x → (t : Bool) → ltb (block_of v) n ≡ t → reach_of l n v ≡ Inside
      in_block h true e =
          let k : block_of v < n = ltb-true (block_of v) n e in
          let len : offset_of v + length x ≤ length (bytes_of l.bytes (block_at l (block_of v))) = rw (blocks_at_lem l n (block_of v) k) at (r.reach h) in
          let room : (block_at l (block_of v)).start + (block_at l (block_of v)).len ≤ data_room l = inside (block_of v) k in
          let size : length_of v ≡ length x = r.len in
          rw (
            ← reach-long l n v (omega arith) k,
            le-leb ((block_at l (block_of v)).start + (block_at l (block_of v)).len) (data_room l) room,
            le-leb (offset_of v + length_of v) (block_at l (block_of v)).len (omega (arith, block-most l.bytes (block_at l (block_of v)))),
          )
      in_block h false e =
          let none : offset_of v + length x ≤ 0 = rw (blocks-past l n (block_of v) (ltb-false (block_of v) n e)) at (r.reach h) in
          absurd (omega arith)

      by : (t : Bool) → is_short (length x) ≡ t → reach_of l n v ≡ Inside
      by true t = let h = leb-true (length x) short_most t in let size : length_of v ≡ length x = r.len in sym (reach-short l n v (omega arith))
      by false t = in_block (leb-false (length x) short_most t) (ltb (block_of v) n) refl

  pub row-reachable : reachable l n v ≡ true
  unfolding reachable
  row-reachable = rw row-reach

zeros-pad : (n : ℕ) (x : List ℕ) → zeros (drop (length x) (pad n x)) ≡ true
unfolding zeros pad
zeros-pad zero [] = refl
zeros-pad zero (a ∷ x) = refl
zeros-pad (suc n) [] = zeros-pad n []
zeros-pad (suc n) (a ∷ x) = zeros-pad n x

-- bytes that end in zeros are their front, padded
pad-zeros : (b : List ℕ) (k : ℕ) → zeros (drop k b) ≡ true → b ≡ pad (length b) (take k b)
unfolding zeros pad
pad-zeros [] zero e = refl
pad-zeros [] (suc k) e = refl
pad-zeros (a ∷ b) (suc k) e = ap (λ (r : List ℕ). a ∷ r) (pad-zeros b k e)
pad-zeros (a ∷ b) zero e = by (eqb a 0) refl e (pad-zeros b zero)
  where
    by : (t : Bool) → eqb a 0 ≡ t → t && zeros b ≡ true → (zeros b ≡ true → b ≡ pad (length b) []) → a ∷ b ≡ 0 ∷ pad (length b) []
    by true f e more = let p = more e in let q : a ≡ 0 = eqb-true a 0 f in cc
    by false f e more = let z : ◌≡◌ {A = ℕ} 0 1 = cc in absurd (omega arith)

pub row-honest : {bs : List (List ℕ)} {v x : List ℕ} → Row bs v x → honest v x ≡ true
unfolding honest
row-honest {bs} {v} {x} r = by (is_short (length x)) refl
  where
    by : (t : Bool) → is_short (length x) ≡ t → pick (is_short (length_of v)) (zeros (drop (length_of v) (body_of v))) (same (prefix_of v) (take 4 x)) ≡ true
    by true t =
        let h : length x ≤ short_most = leb-true (length x) short_most t in
        rw (row-short r h, r.len, r.body h) (zeros-pad short_most x)
    by false t =
        let h : short_most < length x = leb-false (length x) short_most t in
        rw (row-long r h, r.pre, pad-short 4 x (omega arith)) (same_self (take 4 x))

pub row-true : (l : Lent) (k : Kind) (n : ℕ) {v x : List ℕ} → AllIn l n → Row (blocks_of l n) v x → of_kind k x ≡ true → is_true l k n v ≡ true
unfolding is_true
row-true l k n {v} {x} inside r e = rw (row-reachable l n inside r, r.val, row-honest r, e)

module _ (l : Lent) (n : ℕ) (v : List ℕ) where
  -- where a long one that is reachable lies
  reach-block : is_short (length_of v) ≡ false → reachable l n v ≡ true
      → (block_of v < n) × (((block_at l (block_of v)).start + (block_at l (block_of v)).len ≤ data_room l) × (offset_of v + length_of v ≤ (block_at l (block_of v)).len))
  unfolding reachable reach_of
  reach-block s e = by (spot_in l n v 0) (stood (data_room l) n (block_at l (block_of v)) v 0) e
    where
      by : (z : Spot) → Stood (data_room l) n (block_at l (block_of v)) v 0 z → is_inside (reach_by z) ≡ true
          → (block_of v < n) × (((block_at l (block_of v)).start + (block_at l (block_of v)).len ≤ data_room l)
          × (offset_of v + length_of v ≤ (block_at l (block_of v)).len))
      by (spot.View o k) (in-views f) e = absurd (let g = leb-false (length_of v) short_most s in omega arith)
      by (spot.Data o k) (in-data h f g i) e = (f, (g, i))
      by spot.NoBlock (no_block h f) e = absurd (true≢false (sym e))
      by spot.Outside (outside h f) e = absurd (true≢false (sym e))

length-body : (v : List ℕ) → length v ≡ view_size → length (body_of v) ≡ short_most
unfolding body_of
length-body v h = rw length-drop (omega arith)

prefix-body : (v : List ℕ) → prefix_of v ≡ take 4 (body_of v)
unfolding prefix_of body_of
prefix-body v = refl

module _ (l : Lent) (n : ℕ) (v : List ℕ) (size : length v ≡ view_size) (reaches : reachable l n v ≡ true) where
  short-shows : length_of v ≤ short_most → honest v (shown (blocks_of l n) v) ≡ true → Row (blocks_of l n) v (take (length_of v) (body_of v))
  unfolding shown honest
  short-shows h e =
      let x : List ℕ = take (length_of v) (body_of v) in
      let room : length (body_of v) ≡ short_most = length-body v size in
      let len : length x ≡ length_of v = length-take-le (length_of v) (body_of v) (omega arith) in
      let rest : zeros (drop (length_of v) (body_of v)) ≡ true = rw (le-leb (length_of v) short_most h) at e in
      let body : body_of v ≡ pad short_most x = pad-zeros (body_of v) (length_of v) rest ∙ rw room in
      record {
        size = size;
        len = sym len;
        pre = prefix-body v ∙ ap (take 4) body ∙ take-pad 4 short_most x (omega arith);
        body = λ k. body;
        val = rw (le-leb (length_of v) short_most h);
        reach = λ k. absurd (omega arith);
      }

  long-shows : short_most < length_of v → honest v (shown (blocks_of l n) v) ≡ true → Row (blocks_of l n) v (part (blocks_of l n) (block_of v) (offset_of v)
      (length_of v))
  unfolding shown honest
  long-shows h e =
      let x : List ℕ = part (blocks_of l n) (block_of v) (offset_of v) (length_of v) in
      let s : is_short (length_of v) ≡ false = lt-leb (length_of v) short_most h in
      let at = reach-block l n v s reaches in
      let whole : length (get_or (blocks_of l n) (block_of v) []) ≡ (block_at l (block_of v)).len =
      rw (blocks_at_lem l n (block_of v) at.0) (block-length l.bytes (block_at l (block_of v)) (omega (arith, rooms false l))) in
      let len : length x ≡ length_of v =
      length-take-le (length_of v) (drop (offset_of v) (get_or (blocks_of l n) (block_of v) [])) (rw (length-drop, whole) (omega arith)) in
      let front : prefix_of v ≡ take 4 x = same_true (prefix_of v) (take 4 x) (rw s at e) in
      record {
        size = size;
        len = sym len;
        pre = front ∙ sym (pad-short 4 x (omega arith));
        body = λ k. absurd (omega arith);
        val = rw s;
        reach = λ k. rw (len, whole) at.1.1;
      }

  pub honest-row : honest v (shown (blocks_of l n) v) ≡ true → Row (blocks_of l n) v (shown (blocks_of l n) v)
  unfolding shown
  honest-row e = by (is_short (length_of v)) refl
    where
      by : (t : Bool) → is_short (length_of v) ≡ t → Row (blocks_of l n) v (pick t (take (length_of v) (body_of v)) (part (blocks_of l n) (block_of v)
          (offset_of v) (length_of v)))
      by true t = short-shows (leb-true (length_of v) short_most t) e
      by false t = long-shows (leb-false (length_of v) short_most t) e

pub true-row : (l : Lent) (k : Kind) (n : ℕ) (v : List ℕ) → length v ≡ view_size → is_true l k n v ≡ true → Row (blocks_of l n) v (shown (blocks_of l n) v)
unfolding is_true
true-row l k n v size e =
    let p = both (reachable l n v) (honest v (shown (blocks_of l n) v) && of_kind k (shown (blocks_of l n) v)) e in
    honest-row l n v size p.0 (both (honest v (shown (blocks_of l n) v)) (of_kind k (shown (blocks_of l n) v)) p.1).0
