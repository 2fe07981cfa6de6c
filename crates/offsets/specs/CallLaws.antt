-- The verdict as the code finds it, what an accepted call gives, and the whole call. Assumes nothing.
use Rattle.std.proofs.Math.Path.{◌≡◌, refl}
use Rattle.std.proofs.Common.{◌∙◌, ap, arith, le-ltb}
use Rattle.std.specs.Prelude.{Bool, true, false, not, ◌&&◌, List, [], ◌∷◌, ℕ, ◌+◌, ◌*◌, ◌^◌, ◌≤◌, ◌<◌, ltb, length, set, Result, ⊤, Ok, Err}
use Rattle.std.proofs.lemmas.Bool.{not-false}
use Rattle.views.specs.View.{view_size}
use Rattle.bounds.specs.Bounds.{row-limit-small, byte-limit-small}
use Rattle.bounds.specs.Refusals.{refuse, is_accepted, refuse-yes, refuse-no, accepted-both, answered, accepted, Why}
use Rattle.bounds.specs.declared.Refusal.{Refusal}
use Rattle.bounds.specs.declared.Refusal.TheVariants.{Fit, Offsets, NotUtf8}
use Rattle.null_bits.specs.Runs.{copy_column}
use Rattle.column.specs.declared.Kind.{Kind}
use Rattle.column.specs.Lent.{Lent, lent, row_room, block_room, data_room}
use Rattle.column.proofs.FitLaws.{length-table}
use Rattle.showing.specs.Rooms.{rooms}
use Rattle.laying.specs.Written.{front, put_rows}
use Rattle.laying.specs.WrittenLaws.{front-one}
use Rattle.laying.specs.Rooms.{why_rooms}
use Rattle.laying.specs.RoomLaws.{RoomGiven, rooms-give}
use Rattle.offsets.specs.Offsets.{Source, offset_count, row_count, rows_in, cuts, any_null, kind_at, why_kinds, row_view_of, why_offsets, from_offsets, offset_column, no_column, offsets_of, Converted}
use Rattle.offsets.specs.Steps.{all_kinds, CutIn, SourceIn}
use Rattle.offsets.specs.OffsetLaws.{map-there, cuts-give, cuts-count, bits-from, kinds-are, kinds-good}

-- ---- the verdict

pub rows-are : (w : ℕ) (os : List ℕ) (rows : ℕ) → rows + 1 ≡ offset_count w os → rows ≡ row_count w os
rows-are w os rows e = omega arith

module _ (w : ℕ) (s : Source) (k : Kind) (out : Lent) where
  abbrev short : Bool
  short = s.mapped && ltb (8 * length s.nulls) (rows_in w s)

  abbrev cutting : Bool
  cutting = cuts w s.offsets (length s.bytes)

  none-short : 0 ≡ offset_count w s.offsets → short ≡ false
  none-short e = by s.mapped
    where
      by : (t : Bool) → t && ltb (8 * length s.nulls) (rows_in w s) ≡ false
      by true = le-ltb (8 * length s.nulls) (rows_in w s) (omega arith)
      by false = refl

  none-cut : 0 ≡ offset_count w s.offsets → not cutting ≡ true
  unfolding cuts
  none-cut e = rw (← e)

  pub refused_none : 0 ≡ offset_count w s.offsets → Err Offsets ≡ why_offsets w s k out
  unfolding why_offsets
  refused_none e = refuse-no Fit short _ (Err Offsets) (none-short e) (refuse-yes Offsets (not cutting) _ (Err Offsets) (none-cut e) refl)

  module _ (rows : ℕ) (e : rows ≡ rows_in w s) where
    pub refused-map : s.mapped && ltb (8 * length s.nulls) rows ≡ true → Err Fit ≡ why_offsets w s k out
    unfolding why_offsets
    refused-map h = refuse-yes Fit short _ (Err Fit) (rw e at h) refl

    module _ (fit : s.mapped && ltb (8 * length s.nulls) rows ≡ false) where
      pub refused-cut : not cutting ≡ true → Err Offsets ≡ why_offsets w s k out
      unfolding why_offsets
      refused-cut h = refuse-no Fit short _ (Err Offsets) (rw e at fit) (refuse-yes Offsets (not cutting) _ (Err Offsets) h refl)

      module _ (c : not cutting ≡ false) where
        past : (y z : Why) → y ≡ refuse NotUtf8 (not (all_kinds w s k rows)) z → z ≡ why_rooms true rows 1 (length s.bytes) out → y ≡ why_offsets w s k out
        unfolding why_offsets
        past y z h r =
            let q : y ≡ why_kinds w s k rows (why_rooms true rows 1 (length s.bytes) out) = rw (← r) (h ∙ kinds-are w s k rows z) in
            refuse-no Fit short _ y (rw e at fit) (refuse-no Offsets (not cutting) _ y c (rw e at q))

        pub refused-kind : all_kinds w s k rows ≡ false → Err NotUtf8 ≡ why_offsets w s k out
        refused-kind h = past (Err NotUtf8) _ (refuse-yes NotUtf8 (not (all_kinds w s k rows)) _ (Err NotUtf8) (ap not h) refl) refl

        pub judged : all_kinds w s k rows ≡ true → (y : Why) → y ≡ why_rooms true rows 1 (length s.bytes) out → y ≡ why_offsets w s k out
        judged h y r = past y y (refuse-no NotUtf8 (not (all_kinds w s k rows)) y y (ap not h) refl) r

-- ---- a lawful source

pub source_in : (w : ℕ) (s : Source) (rows : ℕ) → rows + 1 ≡ offset_count w s.offsets → rows < 2 ^ 62 → s.mapped && ltb (8 * length s.nulls) rows ≡ false
    → cuts w s.offsets (length s.bytes) ≡ true → SourceIn w s rows
source_in w s rows e small fit c =
    record {
      small = small;
      there = omega arith;
      cut = cuts-give w s.offsets rows (length s.bytes) e c;
      map = map-there s.mapped (length s.nulls) rows fit;
    }

-- ---- what an accepted call gives

pub record Given (w : ℕ) (s : Source) (k : Kind) (out : Lent) : Type 0 where
  pub count : rows_in w s + 1 ≡ offset_count w s.offsets
  pub cut : (j : ℕ) → j < rows_in w s → CutIn w s.offsets (length s.bytes) j
  pub map : s.mapped ≡ true → rows_in w s ≤ 8 * length s.nulls
  pub kinds : (j : ℕ) → j < rows_in w s → kind_at w s k j ≡ true
  pub rooms : RoomGiven (row_room true out) (block_room out) (data_room out) (rows_in w s) 1 (length s.bytes)

pub given : (w : ℕ) (s : Source) (k : Kind) (out : Lent) → is_accepted (why_offsets w s k out) ≡ true → Given w s k out
unfolding why_offsets
given w s k out a =
    let x = accepted-both Fit (s.mapped && ltb (8 * length s.nulls) (rows_in w s)) _ a in
    let y = accepted-both Offsets (not (cuts w s.offsets (length s.bytes))) _ x.1 in
    let z = kinds-good w s k (rows_in w s) _ y.1 in
    let c : cuts w s.offsets (length s.bytes) ≡ true = not-false (cuts w s.offsets (length s.bytes)) y.0 in
    let n : rows_in w s + 1 ≡ offset_count w s.offsets = omega (arith, cuts-count w s.offsets (length s.bytes) c) in
    record {
      count = n;
      cut = cuts-give w s.offsets (rows_in w s) (length s.bytes) n c;
      map = map-there s.mapped (length s.nulls) (rows_in w s) x.0;
      kinds = z.0;
      rooms = rooms-give true (rows_in w s) 1 (length s.bytes) out z.1;
    }

-- the room in each of the five slices
pub record Places (rows size : ℕ) (vs bs ss ns ms : List ℕ) : Type 0 where
  pub views : view_size * rows ≤ length vs
  pub bytes : size ≤ length bs
  pub starts : 0 < length ss
  pub lens : 0 < length ns
  pub nulls : rows ≤ 8 * length ms
  pub few : rows < 16777216
  pub small : size < 2 ^ 32

pub places : (w : ℕ) (s : Source) (k : Kind) (vs bs ss ns ms : List ℕ) → Given w s k (lent vs bs ss ns ms) → Places (rows_in w s) (length s.bytes)
    vs bs ss ns ms
places w s k vs bs ss ns ms g =
    let m = rooms true (lent vs bs ss ns ms) in
    let r = g.rooms in
    let t = length-table ss ns in
    record {
      views = omega (arith, r.row, m.views);
      bytes = omega (arith, r.byte, m.bytes);
      starts = omega (arith, r.block, m.table);
      lens = omega (arith, r.block, m.table);
      nulls = omega (arith, r.row, m.nulls refl);
      few = omega (arith, r.row, m.limit, row-limit-small);
      small = omega (arith, r.byte, m.most, byte-limit-small);
    }

-- ---- the whole call

-- what an answer says of its verdict
pub answered_ok : {A E : Type 0} (w : Result ⊤ E) (x y : A) → Ok y ≡ answered w x → (Ok tt ≡ w) × (y ≡ x)
answered_ok (Ok u) x y e = (refl, cc)
answered_ok (Err r) x y e = absurd (cc)

pub answered_err : {A E : Type 0} (w : Result ⊤ E) (x : A) (r : E) → Err r ≡ answered w x → Err r ≡ w
answered_err (Ok u) x r e = absurd (cc)
answered_err (Err q) x r e = ap Err cc

module _ (w : ℕ) (s : Source) (k : Kind) (vs bs ss ns ms : List ℕ) where
  abbrev dest : Lent
  dest = lent vs bs ss ns ms

  pub converted-not : (r : Refusal) → Err r ≡ why_offsets w s k dest
      → Converted w s k vs bs ss ns ms (record { why = Err r; column = no_column w s k }) vs bs ss ns ms
  unfolding offsets_of
  converted-not r e = record { answer = rw (← e); views = rw (← e); bytes = rw (← e); starts = rw (← e); lens = rw (← e); nulls = rw (← e) }

  module _ (g : accepted ≡ why_offsets w s k dest) where
    pub allowed : Given w s k dest
    allowed = given w s k dest (rw (← g))

    pub roomed : Places (rows_in w s) (length s.bytes) vs bs ss ns ms
    roomed = places w s k vs bs ss ns ms allowed

    -- by the code's number of rows
    module _ (rows : ℕ) (e : rows ≡ rows_in w s) where
      pub lawful-in : SourceIn w s rows
      lawful-in = rw e (record { small = omega (arith, roomed.few); there = omega (arith, allowed.count); cut = allowed.cut; map = allowed.map })

      pub write-in : SourceIn w s rows × (view_size * rows ≤ length vs) × (length s.bytes < 2 ^ 32) × (rows < 2 ^ 59)
      write-in = let p = roomed in (lawful-in, omega arith, omega arith, omega arith)

      pub converted : (b : Bool) (vs' bs' ms' : List ℕ) → b ≡ any_null s.nulls s.mapped rows → vs' ≡ put_rows vs (row_view_of w s) rows
          → bs' ≡ front bs s.bytes → ms' ≡ copy_column ms 0 s.nulls s.mapped 0 rows
          → Converted w s k vs bs ss ns ms (record { why = accepted; column = record { first = 0; rows = rows; blocks = 1; kind = k; mapped = b } })
          vs' bs' (set ss 0 0) (set ns 0 (length s.bytes)) ms'
      unfolding offsets_of from_offsets
      converted b vs' bs' ms' p q d r =
          record {
            answer = rw (← g, p, e);
            views = rw (← g) (rw e at q);
            bytes = rw (← g) d;
            starts = rw (← g) (front-one ss 0 roomed.starts);
            lens = rw (← g) (front-one ns (length s.bytes) roomed.lens);
            nulls = rw (← g) (rw e at (r ∙ bits-from ms s.nulls s.mapped rows));
          }
