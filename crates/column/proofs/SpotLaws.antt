-- Where a view's value stands, test by test; what stands there lies in its slice, and is what the view shows. Assumes nothing.
use Rattle.std.specs.Prelude.{◌≡◌, Bool, ◌&&◌, ℕ, ◌+◌, ◌-◌, ◌*◌, ◌≤◌, ◌<◌, leb, ltb, drop}
use Rattle.std.proofs.Math.Path.{refl, ap}
use Rattle.std.proofs.Common.{sym, ◌∙◌, true≢false, add_comm, get_or-take}
use Rattle.std.proofs.Math.Bool.{true, false}
use mathlib.Core.List.{List, []}
use native.Mathlib.Omega.{arith}
use borrow.Author.Tests.{le-leb, lt-leb, lt-ltb, le-ltb, leb-true, leb-false, ltb-true, ltb-false}
use Rattle.std.proofs.Math.ListN.{length, take, get_or, length-drop, get_or-map}
use Rattle.std.proofs.Math.Seq.{drop-drop, length-take-le}
use Rattle.basis.specs.Pick.{pick, part-is}
use Rattle.bounds.specs.Bounds.{byte_limit}
use Rattle.views.specs.View.{view_size, short_most, is_short, length_of, block_of, offset_of, view_at}
use Rattle.column.specs.declared.Block.{Block}
use Rattle.column.specs.declared.Spot.{Spot}
use Rattle.column.specs.declared.Spot.TheVariants.{View, Data, NoBlock, Outside}
use Rattle.column.specs.Lent.{Lent, block, buffers, table_of, in_data, data_room, block_at}
use Rattle.column.specs.Room.{bare, InRoom}
use Rattle.column.specs.Meaning.{bytes_of, blocks_of, shown}
use Rattle.column.specs.Spot.{spot_of, spot_in, bytes_at, points_to, Lies, Names}
use Rattle.column.specs.Truth.{reach_by, reach_of, is_inside, reachable}
use Rattle.column.proofs.FitLaws.{and_no, table_at}
use Rattle.column.proofs.ReachLaws.{Spans, reach-spans, take_inner, shown-short-at}

-- ---- test by test, the numbers as the code has them

module _ (room n : ℕ) (b : Block) (v : List ℕ) (at len : ℕ) (el : len ≡ length_of v) where
  pub spot-short : len ≤ short_most → View (view_size * at + 4) len ≡ spot_of room n b v at
  unfolding spot_of
  spot-short h = rw (← el, le-leb len short_most h)

  module _ (long : short_most < len) (k : ℕ) (ek : k ≡ block_of v) where
    pub spot-no-block : n ≤ k → NoBlock ≡ spot_of room n b v at
    unfolding spot_of
    spot-no-block h = rw (← el, lt-leb len short_most long, ← ek, le-ltb k n h)

    module _ (h : k < n) (o : ℕ) (eo : o ≡ offset_of v) where
      spot-long : pick (leb (b.start + b.len) room && leb (o + len) b.len) (Data (b.start + o) len) Outside ≡ spot_of room n b v at
      unfolding spot_of
      spot-long = rw (← el, ← eo, lt-leb len short_most long, ← ek, lt-ltb k n h)

      pub spot-over : b.len < o + len → Outside ≡ spot_of room n b v at
      spot-over g =
          let e : (leb (b.start + b.len) room && leb (o + len) b.len) ≡ false = sym (and_no (leb (b.start + b.len) room)
          (leb (o + len) b.len) (lt-leb (o + len) b.len g)) in
          rw (← spot-long, e)

      pub spot_past : room < b.start + b.len → Outside ≡ spot_of room n b v at
      spot_past g = rw (← spot-long, lt-leb (b.start + b.len) room g)

      pub spot-data : b.start + b.len ≤ room → o + len ≤ b.len → Data (b.start + o) len ≡ spot_of room n b v at
      spot-data f g = rw (← spot-long, le-leb (b.start + b.len) room f, le-leb (o + len) b.len g)

-- the record matters to a long view that names one alone
abbrev ranged : ℕ → List ℕ → Block → Spot
ranged room v b = pick (leb (b.start + b.len) room && leb (offset_of v + length_of v) b.len) (Data (b.start + offset_of v) (length_of v)) Outside

pub spot-named : (room n : ℕ) (table : List Block) (v : List ℕ) (at : ℕ) (b : Block) → Names table n v b
    → spot_of room n b v at ≡ spot_of room n (get_or table (block_of v) (block 0 0)) v at
unfolding spot_of
spot-named room n table v at b e = short (is_short (length_of v)) refl
  where
    c : Block
    c = get_or table (block_of v) (block 0 0)

    named : (t : Bool) → ltb (block_of v) n ≡ t → short_most < length_of v → pick t (ranged room v b) NoBlock ≡ pick t (ranged room v c) NoBlock
    named true f l = ap (ranged room v) (e l (ltb-true (block_of v) n f))
    named false f l = refl

    short : (t : Bool) → is_short (length_of v) ≡ t
        → pick t (View (view_size * at + 4) (length_of v)) (pick (ltb (block_of v) n) (ranged room v b) NoBlock)
        ≡ pick t (View (view_size * at + 4) (length_of v)) (pick (ltb (block_of v) n) (ranged room v c) NoBlock)
    short true f = refl
    short false f = named (ltb (block_of v) n) refl (leb-false (length_of v) short_most f)

-- ---- what is known of each

-- how a spot came about
pub data Stood (room n : ℕ) (b : Block) (v : List ℕ) (at : ℕ) : Spot → Type 0 where
  in-views : length_of v ≤ short_most → Stood room n b v at (View (view_size * at + 4) (length_of v))
  in-data : short_most < length_of v → block_of v < n → b.start + b.len ≤ room → offset_of v + length_of v ≤ b.len
      → Stood room n b v at (Data (b.start + offset_of v) (length_of v))
  no_block : short_most < length_of v → n ≤ block_of v → Stood room n b v at NoBlock
  outside : short_most < length_of v → block_of v < n → Stood room n b v at Outside

pub stood : (room n : ℕ) (b : Block) (v : List ℕ) (at : ℕ) → Stood room n b v at (spot_of room n b v at)
unfolding spot_of
stood room n b v at = short (is_short (length_of v)) refl
  where
    in_block : (s t : Bool) → leb (b.start + b.len) room ≡ s → leb (offset_of v + length_of v) b.len ≡ t → short_most < length_of v → block_of v < n
        → Stood room n b v at (pick (s && t) (Data (b.start + offset_of v) (length_of v)) Outside)
    in_block true true e f l h = in-data l h (leb-true (b.start + b.len) room e) (leb-true (offset_of v + length_of v) b.len f)
    in_block true false e f l h = outside l h
    in_block false t e f l h = outside l h

    named : (t : Bool) → ltb (block_of v) n ≡ t → short_most < length_of v → Stood room n b v at (pick t (ranged room v b) NoBlock)
    named true f l = in_block (leb (b.start + b.len) room) (leb (offset_of v + length_of v) b.len) refl refl l (ltb-true (block_of v) n f)
    named false f l = no_block l (ltb-false (block_of v) n f)

    short : (t : Bool) → is_short (length_of v) ≡ t → Stood room n b v at (pick t (View (view_size * at + 4) (length_of v)) (pick (ltb (block_of v) n)
        (ranged room v b) NoBlock))
    short true f = in-views (leb-true (length_of v) short_most f)
    short false f = named (ltb (block_of v) n) refl (leb-false (length_of v) short_most f)

-- how far it reaches doesn't depend on the row
row-none : (t : Bool) (at n : ℕ) (x : Spot) → reach_by (pick t (View (view_size * at + 4) n) x) ≡ reach_by (pick t (View (view_size * 0 + 4) n) x)
row-none true at n x = refl
row-none false at n x = refl

pub spot-reach : (l : Lent) (n : ℕ) (v : List ℕ) (at : ℕ) → reach_by (spot_in l n v at) ≡ reach_of l n v
unfolding reach_of spot_of
spot-reach l n v at = row-none (is_short (length_of v)) at (length_of v) _

-- s is what the code found with so much room and the record b
module _ (views bytes : List ℕ) (room n : ℕ) (b : Block) (at : ℕ) (s : Spot) (er : room ≡ data_room (buffers [] bytes [] [])) (es : s
    ≡ spot_of room n b (view_at views at) at) where
  abbrev view : List ℕ
  view = view_at views at

  -- the part lies in its slice, and is as long as the view says
  pub spot-lies : view_size * at + view_size ≤ length views → Lies views bytes s
  unfolding Lies data_room
  spot-lies h = rw es (by (spot_of room n b view at) (stood room n b view at))
    where
      by : (s : Spot) → Stood room n b view at s → Lies views bytes s
      by (View o k) (in-views f) = omega arith
      by (Data o k) (in-data l f g i) = (omega arith, omega arith)
      by NoBlock (no_block l f) = tt
      by Outside (outside l f) = tt

  pub spot-length : is_inside (reach_by s) ≡ true → view_size * at + view_size ≤ length views → length (bytes_at views bytes s) ≡ length_of view
  unfolding bytes_at data_room
  spot-length r h = rw es (by (spot_of room n b view at) (stood room n b view at) (rw es at r))
    where
      by : (s : Spot) → Stood room n b view at s → is_inside (reach_by s) ≡ true → length (bytes_at views bytes s) ≡ length_of view
      by (View o k) (in-views f) e = length-take-le (length_of view) (drop (view_size * at + 4) views) (simp length-drop (omega arith))
      by (Data o k) (in-data l f g i) e = length-take-le (length_of view) (drop (b.start + offset_of view) bytes) (simp length-drop (omega arith))
      by NoBlock (no_block l f) e = absurd (true≢false (sym e))
      by Outside (outside l f) e = absurd (true≢false (sym e))

  -- over every table that names it so
  module _ (table : List Block) (nulls : List ℕ) (e : Names table n view b) where
    pub spot_is : s ≡ spot_in (buffers views bytes table nulls) n view at
    unfolding data_room
    spot_is = es ∙ ap (λ (m : ℕ). spot_of m n b view at) er ∙ spot-named (data_room (buffers [] bytes [] [])) n table view at b e

    pub spot-reaches : is_inside (reach_by s) ≡ reachable (buffers views bytes table nulls) n view
    unfolding reachable
    spot-reaches = ap (λ (x : Spot). is_inside (reach_by x)) spot_is ∙ ap is_inside (spot-reach (buffers views bytes table nulls) n view at)

-- what a reachable view shows stands there
module _ (views bytes nulls : List ℕ) (table : List Block) (n at : ℕ) where
  abbrev here : Lent
  here = buffers views bytes table nulls

  abbrev row : List ℕ
  row = view_at views at

  abbrev named : Block
  named = block_at here (block_of row)

  module _ (s : Spot) (es : s ≡ spot_in here n row at) where
    pub found-lies : view_size * at + view_size ≤ length views → Lies views bytes s
    unfolding data_room
    found-lies h = spot-lies views bytes (data_room here) n named at s refl es h

    pub found-reach : is_inside (reach_by s) ≡ reachable here n row
    unfolding reachable
    found-reach = ap (λ (x : Spot). is_inside (reach_by x)) es ∙ ap is_inside (spot-reach here n row at)

  block-bytes : (k : ℕ) → k < n → get_or (blocks_of here n) k [] ≡ bytes_of bytes (get_or table k (block 0 0))
  unfolding blocks_of
  block-bytes k h = get_or-map (bytes_of bytes) (take n table) k (block 0 0) ∙ ap (bytes_of bytes) (get_or-take n table k (block 0 0) h)

  pub spot-shown : (s : Spot) → s ≡ spot_in here n row at → is_inside (reach_by s) ≡ true → bytes_at views bytes s ≡ shown (blocks_of here n) row
  unfolding bytes_at shown
  spot-shown s es r = rw es (by (spot_in here n row at) (stood (data_room here) n named row at) (rw es at r))
    where
      long : short_most < length_of row → block_of row < n → offset_of row + length_of row ≤ named.len
          → take (length_of row) (drop (named.start + offset_of row) bytes) ≡ shown (blocks_of here n) row
      long l f i =
          rw (
            lt-leb (length_of row) short_most l,
            block-bytes (block_of row) f,
            take_inner (offset_of row) (length_of row) named.len (drop named.start bytes) i,
            drop-drop (offset_of row) named.start bytes,
          )

      by : (s : Spot) → Stood (data_room here) n named row at s → is_inside (reach_by s) ≡ true → bytes_at views bytes s ≡ shown (blocks_of here n) row
      by (View o k) (in-views f) e = shown-short-at (blocks_of here n) views at f
      by (Data o k) (in-data l f g i) e = long l f i
      by NoBlock (no_block l f) e = absurd (true≢false (sym e))
      by Outside (outside l f) e = absurd (true≢false (sym e))

-- ---- a long view over a table of two number slices, the numbers as the code has them

module _ (views bytes starts lens : List ℕ) (n at len : ℕ) (el : len ≡ length_of (view_at views at)) (long : short_most < len)
    (k : ℕ) (ek : k ≡ block_of (view_at views at)) (h : k < n) (hs : n ≤ length starts) (hn : n ≤ length lens) (o : ℕ) (eo : o ≡ offset_of (view_at views at)) where
  abbrev listed : Lent
  listed = bare views bytes starts lens

  abbrev entry : Block
  entry = block (get_or starts k 0) (get_or lens k 0)

  tabled-spot : (x : Spot) → x ≡ spot_of (data_room listed) n entry (view_at views at) at → x ≡ spot_in listed n (view_at views at) at
  tabled-spot x e = e ∙ ap (λ (b : Block). spot_of (data_room listed) n b (view_at views at) at)
      (sym (table_at starts lens k (omega arith) (omega arith)) ∙ ap (λ (j : ℕ). get_or (table_of starts lens) j (block 0 0)) ek)

  pub long-over : get_or lens k 0 < o + len → Outside ≡ spot_in listed n (view_at views at) at
  long-over g = tabled-spot Outside (spot-over (data_room listed) n entry (view_at views at) at len el long k ek h o eo g)

  pub long-past : in_data (buffers [] bytes [] []) entry ≡ false → Outside ≡ spot_in listed n (view_at views at) at
  unfolding in_data data_room
  long-past g = tabled-spot Outside (spot_past (data_room listed) n entry (view_at views at) at len el long k ek h o eo
      (leb-false (get_or starts k 0 + get_or lens k 0) (data_room listed) g))

  pub long-data : get_or starts k 0 + get_or lens k 0 ≤ byte_limit → get_or starts k 0 + get_or lens k 0 ≤ length bytes → o + len ≤ get_or lens k 0
      → Data (get_or starts k 0 + o) len ≡ spot_in listed n (view_at views at) at
  unfolding data_room
  long-data f g i =
      tabled-spot (Data (get_or starts k 0 + o) len) (spot-data (data_room listed) n entry (view_at views at) at len el long k ek h o eo (omega arith) i)

-- the same of a view that is reachable
module _ (views bytes starts lens : List ℕ) (n at len k o : ℕ) (el : len ≡ length_of (view_at views at)) (long : short_most < len)
    (ek : k ≡ block_of (view_at views at)) (eo : o ≡ offset_of (view_at views at)) (room : InRoom views starts lens n at)
    (r : reachable (bare views bytes starts lens) n (view_at views at) ≡ true) where
  pub reached-spans : Spans bytes starts lens n k o len
  reached-spans = reach-spans views bytes starts lens [] n (view_at views at) room.starts room.lens (rw el at long) k o len ek eo el r

  pub reached-data : Data (get_or starts k 0 + o) len ≡ spot_in (bare views bytes starts lens) n (view_at views at) at
  reached-data =
      let g = reached-spans in
      long-data views bytes starts lens n at len el long k ek g.block room.starts room.lens o eo g.limit g.inside g.range

-- ---- a spot in hand

module _ (views bytes : List ℕ) (s : Spot) (o n : ℕ) where
  pub lies-view : s ≡ View o n → Lies views bytes s → o + n ≤ length views
  unfolding Lies
  lies-view e h = rw e at h

  pub lies-data : s ≡ Data o n → Lies views bytes s → (o + n ≤ length bytes) × (o + n ≤ byte_limit)
  unfolding Lies
  lies-data e h = rw e at h

  pub view-bytes : s ≡ View o n → take (o + n - o) (drop o views) ≡ bytes_at views bytes s
  unfolding bytes_at
  view-bytes e = rw e (part-is views o n o n refl refl)

  pub data-bytes : s ≡ Data o n → take (o + n - o) (drop o bytes) ≡ bytes_at views bytes s
  unfolding bytes_at
  data-bytes e = rw e (part-is bytes o n o n refl refl)

  pub no_bytes : is_inside (reach_by s) ≡ false → [] ≡ bytes_at views bytes s
  unfolding bytes_at
  no_bytes h = by s h
    where
      by : (s : Spot) → is_inside (reach_by s) ≡ false → [] ≡ bytes_at views bytes s
      by (View o k) e = absurd (true≢false e)
      by (Data o k) e = absurd (true≢false e)
      by NoBlock e = refl
      by Outside e = refl

module _ (v d y : ℕ × ℕ) (s : Spot) (o n : ℕ) where
  pub points-view : s ≡ View o n → y ≡ (v.0, o + v.1) → y ≡ points_to v d s
  unfolding points_to
  points-view e h = rw (e, h) (ap (λ (k : ℕ). (v.0, k)) (add_comm o v.1))

  pub points-data : s ≡ Data o n → y ≡ (d.0, o + d.1) → y ≡ points_to v d s
  unfolding points_to
  points-data e h = rw (e, h) (ap (λ (k : ℕ). (d.0, k)) (add_comm o d.1))

  pub points_none : is_inside (reach_by s) ≡ false → y ≡ (v.0, 0 + v.1) → y ≡ points_to v d s
  unfolding points_to
  points_none h e = rw e (ap (λ (k : ℕ). (v.0, k)) (add_comm 0 v.1) ∙ by s h)
    where
      by : (s : Spot) → is_inside (reach_by s) ≡ false → (v.0, v.1 + 0) ≡ points_to v d s
      by (View o k) e = absurd (true≢false e)
      by (Data o k) e = absurd (true≢false e)
      by NoBlock e = refl
      by Outside e = refl
