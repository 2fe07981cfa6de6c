-- How far a view reaches, test by test; what it tells that a view is reachable; and the value that it shows then. Assumes nothing.
use Rattle.std.specs.Prelude.{◌≡◌, Bool, ◌&&◌, List, [], ◌∷◌, ℕ, zero, suc, ◌+◌, ◌-◌, ◌*◌, ◌≤◌, ◌<◌, length, take, drop, get_or}
use Rattle.std.proofs.Math.Path.{refl, sym, ap}
use Rattle.std.proofs.Common.{◌∙◌, true≢false, arith, length-drop, get_or-take, take-take, length-take-le}
use Rattle.std.proofs.Math.Bool.{true, false}
use borrow.Author.Tests.{le-leb, lt-leb, lt-ltb, le-ltb, leb-true, leb-false, ltb-true, ltb-false}
use Rattle.std.proofs.Math.Dec.{leb, ltb}
use Rattle.std.proofs.Math.ListN.{get_or-map}
use Rattle.std.proofs.Math.Seq.{drop-drop}
use Rattle.basis.specs.Pick.{pick, part-is}
use Rattle.bounds.specs.Bounds.{byte_limit}
use Rattle.views.specs.View.{view_size, short_most, length_of, block_of, offset_of, body_of, view_at}
use Rattle.views.specs.ViewLaws.{body_at}
use Rattle.column.specs.declared.Block.{Block}
use Rattle.column.specs.declared.Reach.TheVariants.{Inside, NoBlock, Outside}
use Rattle.column.specs.Lent.{Lent, block, buffers, lent, block_at, in_data, data_room}
use Rattle.column.specs.Room.{bare}
use Rattle.column.specs.Meaning.{bytes_of, blocks_of, shown}
use Rattle.column.specs.declared.Spot.TheVariants as spot
use Rattle.column.specs.Spot.{spot_of, spot_in}
use Rattle.column.specs.Truth.{reach_by, reach_of, is_inside, reachable}
use Rattle.column.proofs.FitLaws.{table_at, block-in-data, in-data-gives, and_left, and_right}

-- ---- test by test, over any table

picked-reach : (t : Bool) (o m : ℕ) → pick t Inside Outside ≡ reach_by (pick t (spot.Data o m) spot.Outside)
picked-reach true o m = refl
picked-reach false o m = refl

module _ (l : Lent) (n : ℕ) (v : List ℕ) where
  pub reach-short : length_of v ≤ short_most → Inside ≡ reach_of l n v
  unfolding reach_of spot_of
  reach-short h = rw (le-leb (length_of v) short_most h)

  pub reach-no-block : short_most < length_of v → n ≤ block_of v → NoBlock ≡ reach_of l n v
  unfolding reach_of spot_of
  reach-no-block h g = rw (lt-leb (length_of v) short_most h, le-ltb (block_of v) n g)

  pub reach-long : short_most < length_of v → block_of v < n
      → pick (in_data l (block_at l (block_of v)) && leb (offset_of v + length_of v) (block_at l (block_of v)).len) Inside Outside ≡ reach_of l n v
  unfolding reach_of spot_of in_data
  reach-long h g =
      rw (lt-leb (length_of v) short_most h, lt-ltb (block_of v) n g)
      (picked-reach (in_data l (block_at l (block_of v)) && leb (offset_of v + length_of v) (block_at l (block_of v)).len) ((block_at l (block_of v)).start
      + offset_of v) (length_of v))

-- ---- over a table of two number slices; k is the block's number, as the code has it

module _ (views bytes starts lens nulls : List ℕ) (n : ℕ) (v : List ℕ) where
  abbrev here : Lent
  here = lent views bytes starts lens nulls

  module _ (k : ℕ) (e : k ≡ block_of v) (long : short_most < length_of v) (h : k < n) (s : n ≤ length starts) (t : n ≤ length lens) where
    at_block : pick (in_data (buffers [] bytes [] []) (block (get_or starts k 0) (get_or lens k 0)) && leb (offset_of v + length_of v) (get_or lens k 0))
        Inside Outside ≡ reach_of here n v
    at_block =
        let size : get_or lens k 0 ≡ (block_at here k).len = sym (ap (λ (b : Block). b.len) (table_at starts lens k (omega arith) (omega arith))) in
        rw (block-in-data views bytes starts lens nulls k (omega arith) (omega arith), size, e) (reach-long here n v long (omega arith))

    pub reach-no-data : in_data (buffers [] bytes [] []) (block (get_or starts k 0) (get_or lens k 0)) ≡ false → Outside ≡ reach_of here n v
    reach-no-data i = rw (← at_block, i)

    pub reach-over : in_data (buffers [] bytes [] []) (block (get_or starts k 0) (get_or lens k 0)) ≡ true → get_or lens k 0 < offset_of v + length_of v
        → Outside ≡ reach_of here n v
    reach-over i o = rw (← at_block, i, lt-leb (offset_of v + length_of v) (get_or lens k 0) o)

    pub reach-inside : in_data (buffers [] bytes [] []) (block (get_or starts k 0) (get_or lens k 0)) ≡ true → offset_of v + length_of v ≤ get_or lens k 0
        → Inside ≡ reach_of here n v
    reach-inside i o = rw (← at_block, i, le-leb (offset_of v + length_of v) (get_or lens k 0) o)

-- ---- what a reachable view of a long value tells: its block is in the table and in the data, and its range in the block

pub record Spans (bs ss ns : List ℕ) (n k offset len : ℕ) : Type 0 where
  pub block : k < n
  pub limit : get_or ss k 0 + get_or ns k 0 ≤ byte_limit
  pub inside : get_or ss k 0 + get_or ns k 0 ≤ length bs
  pub range : offset + len ≤ get_or ns k 0

abbrev pub ReachSpans : List ℕ → List ℕ → List ℕ → ℕ → List ℕ → Type 0
ReachSpans bs ss ns n v = Spans bs ss ns n (block_of v) (offset_of v) (length_of v)

module _ (views bytes starts lens nulls : List ℕ) (n : ℕ) (v : List ℕ) (s : n ≤ length starts) (t : n ≤ length lens) (long : short_most < length_of v) where
  abbrev there : Lent
  there = lent views bytes starts lens nulls

  abbrev lies : Bool
  lies = in_data (buffers [] bytes [] []) (block (get_or starts (block_of v) 0) (get_or lens (block_of v) 0))

  abbrev ranged : Bool
  ranged = leb (offset_of v + length_of v) (get_or lens (block_of v) 0)

  picked : (b : Bool) → is_inside (pick b Inside Outside) ≡ true → b ≡ true
  picked true h = refl
  picked false h = h

  numbered : block_of v < n → lies && ranged ≡ true → ReachSpans bytes starts lens n v
  numbered h both =
      let inside = in-data-gives (buffers [] bytes [] []) (get_or starts (block_of v) 0) (get_or lens (block_of v) 0) (and_left lies ranged both) in
      record {
        block = h;
        limit = inside.0;
        inside = inside.1;
        range = leb-true (offset_of v + length_of v) (get_or lens (block_of v) 0)
            (and_right lies ranged both);
      }

  pub reach-gives : reachable there n v ≡ true → ReachSpans bytes starts lens n v
  unfolding reachable
  reach-gives r = by (ltb (block_of v) n) refl
    where
      by : (b : Bool) → ltb (block_of v) n ≡ b → ReachSpans bytes starts lens n v
      by true e =
          let h = ltb-true (block_of v) n e in
          numbered h (picked (lies && ranged) (rw (at_block views bytes starts lens nulls n v (block_of v) refl long h s t) r))
      by false e =
          let h = ltb-false (block_of v) n e in
          let none : reach_of there n v ≡ NoBlock = sym (reach-no-block there n v long h) in
          let z : is_inside NoBlock ≡ true = rw none at r in
          absurd (true≢false (sym z))

  -- the same of the view's numbers as the code has them
  pub reach-spans : (k o m : ℕ) → k ≡ block_of v → o ≡ offset_of v → m ≡ length_of v → reachable there n v ≡ true → Spans bytes starts lens n k o m
  reach-spans k o m e f g r = rw (e, f, g) (reach-gives r)

-- ---- the value that a view shows

length-body : (v : List ℕ) → length (body_of v) ≡ length v - 4
unfolding body_of
length-body v = length-drop 4 v

pub take_inner : (o m n : ℕ) (l : List ℕ) → o + m ≤ n → take m (drop o (take n l)) ≡ take m (drop o l)
take_inner zero m n l h = take-take m n l (omega arith)
take_inner (suc o) m zero l h = absurd (omega arith)
take_inner (suc o) m (suc n) [] h = refl
take_inner (suc o) m (suc n) (a ∷ l) h = take_inner o m n l (omega arith)

pub shown-short : (blocks : List (List ℕ)) (v : List ℕ) → length_of v ≤ short_most → take (length_of v) (body_of v) ≡ shown blocks v
unfolding shown
shown-short blocks v h = rw (le-leb (length_of v) short_most h)

-- a short value of a row stands in the views
pub shown-short-at : (blocks : List (List ℕ)) (vs : List ℕ) (r : ℕ) → length_of (view_at vs r) ≤ short_most
    → take (length_of (view_at vs r)) (drop (view_size * r + 4) vs) ≡ shown blocks (view_at vs r)
shown-short-at blocks vs r h =
    sym (take-take (length_of (view_at vs r)) short_most (drop (view_size * r + 4) vs) h)
    ∙ ap (take (length_of (view_at vs r))) (sym (body_at vs r))
    ∙ shown-short blocks (view_at vs r) h

module _ (views bytes starts lens nulls : List ℕ) (n : ℕ) (v : List ℕ) (s : n ≤ length starts) (t : n ≤ length lens) where
  abbrev where-lent : Lent
  where-lent = lent views bytes starts lens nulls

  -- the bytes of a block
  pub block-bytes : (k : ℕ) → k < n → get_or (blocks_of where-lent n) k [] ≡ take (get_or lens k 0) (drop (get_or starts k 0) bytes)
  unfolding blocks_of
  block-bytes k h =
      get_or-map (bytes_of bytes) (take n where-lent.table) k (block 0 0)
      ∙ ap (bytes_of bytes) (get_or-take n where-lent.table k (block 0 0) h ∙ table_at starts lens k (omega arith) (omega arith))

  -- a long value stands in the data
  pub shown-long : short_most < length_of v → reachable where-lent n v ≡ true
      → take (length_of v) (drop (get_or starts (block_of v) 0 + offset_of v) bytes) ≡ shown (blocks_of where-lent n) v
  unfolding shown
  shown-long long r =
      let g = reach-gives views bytes starts lens nulls n v s t long r in
      rw (
        lt-leb (length_of v) short_most long,
        block-bytes (block_of v) g.block,
        take_inner (offset_of v) (length_of v) (get_or lens (block_of v) 0) (drop (get_or starts (block_of v) 0) bytes) g.range,
        drop-drop (offset_of v) (get_or starts (block_of v) 0) bytes,
      )

  -- the same of the view's numbers as the code has them
  pub part-shown : (k o m : ℕ) → k ≡ block_of v → o ≡ offset_of v → m ≡ length_of v → short_most < m → reachable where-lent n v ≡ true
      → take (get_or starts k 0 + o + m - (get_or starts k 0 + o)) (drop (get_or starts k 0 + o) bytes) ≡ shown (blocks_of where-lent n) v
  part-shown k o m e f g long r = rw (e, f, g) (part-is bytes (get_or starts (block_of v) 0 + offset_of v) (length_of v) (get_or starts (block_of v) 0
      + offset_of v) (length_of v) refl refl ∙ shown-long (rw g at long) r)

  -- its length is the view's
  pub length-shown : length v ≡ view_size → reachable where-lent n v ≡ true → length (shown (blocks_of where-lent n) v) ≡ length_of v
  length-shown e r = by (leb (length_of v) short_most) refl
    where
      by : (b : Bool) → leb (length_of v) short_most ≡ b → length (shown (blocks_of where-lent n) v) ≡ length_of v
      by true d =
          let h = leb-true (length_of v) short_most d in
          rw (← shown-short (blocks_of where-lent n) v h) (length-take-le (length_of v) (body_of v) (rw (length-body v) (omega arith)))
      by false d =
          let h = leb-false (length_of v) short_most d in
          let g = reach-gives views bytes starts lens nulls n v s t h r in
          rw (← shown-long h r) (length-take-le (length_of v) (drop (get_or starts (block_of v) 0 + offset_of v) bytes) (simp length-drop (omega arith)))

-- ---- the null map isn't asked

module _ (views bytes starts lens nulls : List ℕ) (n : ℕ) (v : List ℕ) where
  pub spot-bare : (at : ℕ) → spot_in (bare views bytes starts lens) n v at ≡ spot_in (lent views bytes starts lens nulls) n v at
  unfolding data_room
  spot-bare at = refl

  pub reachable-bare : reachable (bare views bytes starts lens) n v ≡ reachable (lent views bytes starts lens nulls) n v
  unfolding reachable reach_of in_data data_room
  reachable-bare = refl

  pub shown-bare : shown (blocks_of (bare views bytes starts lens) n) v ≡ shown (blocks_of (lent views bytes starts lens nulls) n) v
  unfolding blocks_of
  shown-bare = refl
