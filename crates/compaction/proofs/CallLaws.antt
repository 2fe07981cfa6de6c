-- The verdict as the code finds it, what an accepted call gives the second pass, and the whole call. Assumes nothing.
use Rattle.std.specs.Prelude.{◌≡◌, Bool, true, false, not, List, ℕ, ◌+◌, ◌*◌, ◌^◌, ◌≤◌, ◌<◌, ltb, Err}
use Rattle.std.proofs.Math.Path.{refl, sym, ap}
use Rattle.std.proofs.Common.{◌∙◌, arith, lt-ltb, le-ltb, eq-eqb, ne_eqb}
use Rattle.std.proofs.Math.Decide.{ℕ_discrete}
use Rattle.std.proofs.Math.Logic.{by_cases}
use Rattle.std.proofs.lemmas.Bool.{not-false}
use Rattle.std.proofs.Math.ListN.{length}
use Rattle.null_bits.specs.Bits as bits
use Rattle.null_bits.specs.Runs.{put_bits}
use Rattle.bounds.specs.Bounds.{most_compaction, row-limit-small, block-limit-small, byte-limit-small}
use Rattle.bounds.specs.Refusals.{refuse, is_accepted, refuse-yes, refuse-no, accepted-both, accepted, Why}
use Rattle.bounds.specs.declared.Refusal.{Refusal}
use Rattle.bounds.specs.declared.Refusal.TheVariants.{Setting, Fit}
use Rattle.column.specs.declared.Column.{Column}
use Rattle.column.specs.Lent.{Lent, lent, fits, in_data, row_room, block_room, data_room}
use Rattle.column.specs.Room.{bare}
use Rattle.column.specs.Meaning.{row_view, blocks_of, row_valid}
use Rattle.column.specs.Truth.{reach_of, reachable, is_true, true_at, lowest}
use Rattle.column.proofs.FitLaws.{Fitting, fits_gives, length-table}
use Rattle.column.proofs.LowestLaws.{lowest-none, lowest-good}
use Rattle.showing.specs.Rooms.{rooms}
use Rattle.compaction.specs.declared.Stand.{Stand}
use Rattle.compaction.specs.declared.Judged.{Judged}
use Rattle.compaction.specs.Compact.{long_lens, new_lens, why_compact, compacted, compact_of, Wrote}
use Rattle.compaction.specs.Steps.{stand_of, stand_at, SourceFits, Walked, Few, WriteIn, TableIn, Filled, CutListed, blocks_by, Counted, map_by}
use Rattle.compaction.proofs.LaidLaws.{stand-total, lens_none, count-blocks}
use Rattle.laying.specs.RoomLaws.{RoomGiven, rooms-give}
use Rattle.laying.specs.Rooms.{why_rooms}
use Rattle.laying.specs.Written.{total}

-- ---- the blocks

pub by-none : (s : Stand) → s.base + s.fill ≡ 0 → 0 ≡ blocks_by s
unfolding blocks_by
by-none s h = rw (eq-eqb (s.base + s.fill) 0 h)

pub by-some : (s : Stand) → (s.base + s.fill ≡ 0 → ⊥) → s.closed + 1 ≡ blocks_by s
unfolding blocks_by
by-some s h = rw (ne_eqb (s.base + s.fill) 0 h)

-- ---- the verdict of the call

module _ (most : ℕ) (views bytes starts lens nulls : List ℕ) (c : Column) (out : Lent) where
  abbrev src : Lent
  src = lent views bytes starts lens nulls

  -- the rows as the code judges them, without the null map
  abbrev bared : Lent
  bared = bare views bytes starts lens

  abbrev roomed : Why
  roomed = why_rooms c.mapped c.rows (length (new_lens most src c)) (total (long_lens src c c.rows)) out

  rows_whole : (w : Why) → lowest (true_at c.kind bared c) c.rows w ≡ lowest (true_at c.kind src c) c.rows w
  unfolding is_true reachable reach_of in_data data_room blocks_of
  rows_whole w = refl

  pub compact-setting : most_compaction < most → Err Setting ≡ why_compact most src c out
  unfolding why_compact
  compact-setting h = refuse-yes Setting (ltb most_compaction most) _ (Err Setting) (lt-ltb most_compaction most h) refl

  module _ (set : most ≤ most_compaction) where
    past-setting : (w : Why) → w ≡ refuse Fit (not (fits src c)) (lowest (true_at c.kind src c) c.rows roomed) → w ≡ why_compact most src c out
    unfolding why_compact
    past-setting w e = refuse-no Setting (ltb most_compaction most) _ w (le-ltb most_compaction most set) e

    pub compact-fit : not (fits src c) ≡ true → Err Fit ≡ why_compact most src c out
    compact-fit h = past-setting (Err Fit) (refuse-yes Fit (not (fits src c)) _ (Err Fit) h refl)

    module _ (fit : not (fits src c) ≡ false) where
      past-fit : (w : Why) → w ≡ lowest (true_at c.kind bared c) c.rows roomed → w ≡ why_compact most src c out
      past-fit w e = past-setting w (refuse-no Fit (not (fits src c)) _ w fit (e ∙ rows_whole roomed))

      pub compact-row : (e : Refusal) → ((w : Why) → Err e ≡ lowest (true_at c.kind bared c) c.rows w) → Err e ≡ why_compact most src c out
      compact-row e h = past-fit (Err e) (h roomed)

      -- all rows are true: the verdict is that of the rooms, by the numbers of the first pass
      module _ (s : Stand) (g : Walked most bared c s) where
        pub blocks_is : blocks_by s ≡ length (new_lens most src c)
        unfolding blocks_by
        blocks_is = sym (count-blocks most (row_view src c) c.rows s g.stand)

        bytes-is : s.base + s.fill ≡ total (long_lens src c c.rows)
        bytes-is = rw g.stand (stand-total most (long_lens src c c.rows))

        pub compact-rooms : (w : Why) (b t : ℕ) → b ≡ blocks_by s → t ≡ s.base + s.fill → w ≡ why_rooms c.mapped c.rows b t out
            → w ≡ why_compact most src c out
        compact-rooms w b t e f h =
            past-fit w (rw (e ∙ blocks_is, f ∙ bytes-is) at h ∙ lowest-none (true_at c.kind bared c) c.rows roomed g.truth)

        pub judged : (j : Judged) → j.blocks ≡ blocks_by s → j.bytes ≡ s.base + s.fill → accepted ≡ why_rooms c.mapped c.rows j.blocks j.bytes out
            → Counted most src c out j
        judged j e f h =
            record {
              verdict = compact-rooms accepted j.blocks j.bytes e f h;
              count = record { blocks = e ∙ blocks_is; bytes = f ∙ bytes-is };
            }

-- ---- what an accepted call gives

module _ (most : ℕ) (views bytes starts lens nulls : List ℕ) (c : Column) (vs bs ss ns ms : List ℕ) where
  abbrev from : Lent
  from = lent views bytes starts lens nulls

  abbrev into : Lent
  into = lent vs bs ss ns ms

  abbrev last : Stand
  last = stand_at most (row_view from c) c.rows

  last_none : last.base + last.fill ≡ 0 → last.closed ≡ 0
  unfolding stand_of
  last_none h = ap length (lens_none most (row_view from c) c.rows h).1

  module _ (a : is_accepted (why_compact most from c into) ≡ true) where
    past : (fits from c ≡ true) × ((r : ℕ) → r < c.rows → true_at c.kind from c r ≡ true)
        × RoomGiven (row_room c.mapped into) (block_room into) (data_room into) c.rows (length (new_lens most from c)) (total (long_lens from c c.rows))
    unfolding why_compact
    past =
        let x = accepted-both Setting (ltb most_compaction most) _ a in
        let y = accepted-both Fit (not (fits from c)) _ x.1 in
        let z = lowest-good (true_at c.kind from c) c.rows _ y.1 in
        (not-false (fits from c) y.0, z.0, rooms-give c.mapped c.rows (length (new_lens most from c)) (total (long_lens from c c.rows)) into z.1)

    given : Fitting views starts lens nulls c
    given = fits_gives views bytes starts lens nulls c past.0

    pub source : SourceFits views starts lens c
    source = record { rows = given.rows; views = given.views; starts = given.starts; lens = given.lens }

    true-bared : (r : ℕ) → r < c.rows → true_at c.kind (bare views bytes starts lens) c r ≡ true
    unfolding is_true reachable reach_of in_data data_room blocks_of
    true-bared = past.1

    bytes-in : last.base + last.fill ≤ data_room into
    bytes-in = rw (stand-total most (long_lens from c c.rows)) past.2.byte

    table-in : 0 < last.base + last.fill → last.closed + 1 ≤ block_room into
    table-in h =
        let n = count-blocks most (row_view from c) c.rows last refl in
        let e : length (new_lens most from c) ≡ last.closed + 1 = rw (ne_eqb (last.base + last.fill) 0 (λ z. omega arith)) at n in
        omega (arith, past.2.block)

    count-in : last.closed + 1 < 2 ^ 32
    count-in =
        by_cases (ℕ_discrete (last.base + last.fill) 0)
        (λ z. omega (arith, last_none z))
        (λ z. let t = table-in (omega arith) in omega (arith, (rooms c.mapped into).blocks, block-limit-small))

    few : Few last
    few = let m = rooms c.mapped into in record { small = omega (arith, bytes-in, m.most, byte-limit-small); count = count-in }

    pub write-in : WriteIn most (bare views bytes starts lens) c vs bs
    write-in =
        let m = rooms c.mapped into in
        record { truth = true-bared; rows = omega (arith, past.2.row, m.views); bytes = omega (arith, bytes-in, m.bytes); few = few }

    pub room-table : TableIn last ss ns
    room-table =
        let m = rooms c.mapped into in
        record {
          starts = λ h. omega (arith, table-in h, m.table, length-table ss ns);
          lens = λ h. omega (
            arith,
            table-in h,
            m.table,
            length-table
                ss ns,
          );
          few = few;
        }

    pub map-in : (c.mapped ≡ true → (c.rows ≤ 8 * length ms) × (c.first + c.rows ≤ 8 * length nulls)) × (c.first + c.rows < 2 ^ 63)
    map-in =
        ((λ e. (omega (arith, past.2.row, (rooms c.mapped into).nulls e), given.bits e)), omega (arith, given.rows, row-limit-small))

-- ---- the whole call

module _ (most : ℕ) (views bytes starts lens nulls : List ℕ) (c : Column) (vs bs ss ns ms : List ℕ) where
  abbrev orig : Lent
  orig = lent views bytes starts lens nulls

  abbrev dest : Lent
  dest = lent vs bs ss ns ms

  pub wrote-not : (r : Refusal) → Err r ≡ why_compact most orig c dest → Wrote most orig c vs bs ss ns ms (record { why = Err r; column = c }) vs bs ss ns ms
  unfolding compact_of
  wrote-not r e = record { answer = rw (← e); views = rw (← e); bytes = rw (← e); starts = rw (← e); lens = rw (← e); nulls = rw (← e) }

  module _ (j : Judged) (g : Counted most orig c dest j) where
    pub accepts : is_accepted (why_compact most orig c dest) ≡ true
    accepts = rw (← g.verdict)

    module _ (vs' bs' ss' ns' ms' : List ℕ) (f : Filled most (bare views bytes starts lens) c vs bs vs' bs')
        (k : CutListed most (row_view orig c) c.rows ss ns ss' ns') (m : ms' ≡ map_by ms nulls c.mapped c.first c.rows) where
      views-are : vs' ≡ (compacted most orig c dest).views
      unfolding compacted blocks_of
      views-are = f.views

      bytes-are : bs' ≡ (compacted most orig c dest).bytes
      unfolding compacted blocks_of
      bytes-are = f.bytes

      nulls-are : ms' ≡ (compacted most orig c dest).nulls
      unfolding compacted map_by row_valid
      nulls-are = m

      pub wrote : Wrote most orig c vs bs ss ns ms (record {
        why = accepted;
        column = record { first = 0; rows = c.rows; blocks = j.blocks; kind = c.kind; mapped = c.mapped };
      }) vs' bs' ss' ns' ms'
      unfolding compact_of
      wrote =
          record {
            answer = rw (← g.verdict, g.count.blocks);
            views = rw (← g.verdict) views-are;
            bytes = rw (← g.verdict) bytes-are;
            starts = rw (← g.verdict) k.starts;
            lens = rw (← g.verdict) k.lens;
            nulls = rw (← g.verdict) nulls-are;
          }

-- ---- the map

pub map-yes : (ms nulls : List ℕ) (mapped : Bool) (first rows : ℕ) → mapped ≡ true → put_bits ms 0 (λ k. bits.valid_at nulls mapped (first + k)) rows
    ≡ map_by ms nulls mapped first rows
unfolding map_by
map-yes ms nulls mapped first rows e = rw e

pub map-no : (ms nulls : List ℕ) (mapped : Bool) (first rows : ℕ) → mapped ≡ false → ms ≡ map_by ms nulls mapped first rows
unfolding map_by
map-no ms nulls mapped first rows e = rw e
