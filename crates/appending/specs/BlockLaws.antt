-- A block and a view of a completed block added: the calls' verdicts test by test, and their contracts from what their parts leave. Assumes nothing.
use Rattle.std.specs.Prelude.{◌≡◌, Bool, true, false, not, ◌&&◌, ℕ, zero, suc, ◌+◌, ◌-◌, ◌*◌, min, ◌≤◌, ◌<◌, ltb, get_or, take, drop, Err}
use Rattle.std.proofs.Math.Path.{refl, sym, ap}
use Rattle.std.proofs.Common.{◌∙◌, length-set}
use mathlib.Core.List.{List, [], ◌∷◌}
use native.Mathlib.Omega.{arith}
use borrow.Author.Tests.{le-leb, lt-leb, lt-ltb, le-ltb, leb-true, leb-false, ltb-false, not-false}
use Rattle.std.proofs.Math.Dec.{leb}
use Rattle.std.proofs.Math.ListN.{length, set}
use Rattle.std.proofs.Math.Seq.{paste, drop-drop}
use Rattle.basis.specs.Pick.{pick, part-is}
use Rattle.bounds.specs.Bounds.{block_limit, byte_limit}
use Rattle.bounds.specs.Refusals.{refuse, is_accepted, accepted-both, accepted-yes, accepted-no, accepted, Why}
use Rattle.bounds.specs.declared.Refusal.TheVariants.{Fit, TooLong, RowRoom, BlockRoom, DataRoom, NoBlock, Range, NotUtf8}
use Rattle.null_bits.specs.Bits.{put_bit}
use Rattle.views.specs.View.{make_view}
use Rattle.column.specs.declared.Block.{Block}
use Rattle.column.specs.Lent.{buffers, block, lent, table_of, in_data, block_at, block_room, data_room}
use Rattle.column.specs.Truth.{of_kind}
use Rattle.column.proofs.FitLaws.{length-table, table_at, block-in-data, in-data-gives, and_left, and_right}
use Rattle.column.proofs.ReachLaws.{block-bytes, take_inner}
use Rattle.builder.specs.declared.State.{State}
use Rattle.builder.specs.State.{Builder, held, is_open, all_blocks, used, rows_room, fits_state, closed, complete, recorded, rowed, add_row}
use Rattle.builder.specs.Rooms.{room_of_rows, room_of_blocks, room_of_bytes, open_starts, open_lens}
use Rattle.builder.specs.RoomLaws.{Fitted, fits_gives, rows-room-is, blocks-room-is, bytes-room-is, all-bounds, is-accepted}
use Rattle.builder.specs.Others.{lay_block, why_room, why_block, put_block, block_number, viewed, why_view, put_view}
use Rattle.builder.proofs.PutLaws.{recorded-starts, recorded-lens}
use Rattle.builder.specs.Does.{Does, answer, starts_of, lens_of}
use Rattle.builder.specs.DoesLaws.{starts-same, lens_same, does-no, does-put}
use Rattle.appending.specs.Laying.{block_more}

-- a record put in a table, seen in its two slices
pub starts-put : (t : List Block) (ss : List ℕ) (k s n : ℕ) → k < length t → starts_of (set t k (block s n)) ss ≡ set (starts_of t ss) k s
unfolding starts_of
starts-put [] ss k s n h = absurd (omega arith)
starts-put (b ∷ t) [] zero s n h = refl
starts-put (b ∷ t) [] (suc k) s n h = refl
starts-put (b ∷ t) (a ∷ ss) zero s n h = refl
starts-put (b ∷ t) (a ∷ ss) (suc k) s n h = ap (λ (l : List ℕ). b.start ∷ l) (starts-put t ss k s n (omega arith))

pub lens-put : (t : List Block) (ns : List ℕ) (k s n : ℕ) → k < length t → lens_of (set t k (block s n)) ns ≡ set (lens_of t ns) k n
unfolding lens_of
lens-put [] ns k s n h = absurd (omega arith)
lens-put (b ∷ t) [] zero s n h = refl
lens-put (b ∷ t) [] (suc k) s n h = refl
lens-put (b ∷ t) (a ∷ ns) zero s n h = refl
lens-put (b ∷ t) (a ∷ ns) (suc k) s n h = ap (λ (l : List ℕ). b.len ∷ l) (lens-put t ns k s n (omega arith))

pub recorded-length : (s : State) (vs bs ss ns ms : List ℕ) → length (recorded s (lent vs bs ss ns ms)).table ≡ min (length ss) (length ns)
unfolding recorded
recorded-length s vs bs ss ns ms = by (is_open s) ∙ length-table ss ns
  where
    by : (o : Bool) → length (pick o (set (table_of ss ns) s.blocks (block s.base s.fill)) (table_of ss ns)) ≡ length (table_of ss ns)
    by true = length-set (table_of ss ns) s.blocks (block s.base s.fill)
    by false = refl

-- ---- 6 and 7

module _ (s : State) (blocks bytes n m : ℕ) where
  pub room-no-block : blocks < all_blocks s + n → Err BlockRoom ≡ why_room s blocks bytes n m
  unfolding why_room refuse
  room-no-block h = rw (lt-ltb blocks (all_blocks s + n) h)

  pub room-no-data : all_blocks s + n ≤ blocks → bytes < used s + m → Err DataRoom ≡ why_room s blocks bytes n m
  unfolding why_room refuse
  room-no-data h g = rw (le-ltb blocks (all_blocks s + n) h, lt-ltb bytes (used s + m) g)

  pub room-fine : all_blocks s + n ≤ blocks → used s + m ≤ bytes → accepted ≡ why_room s blocks bytes n m
  unfolding why_room refuse
  room-fine h g = rw (le-ltb blocks (all_blocks s + n) h, le-ltb bytes (used s + m) g)

  pub room-has : is_accepted (why_room s blocks bytes n m) ≡ true → (all_blocks s + n ≤ blocks) × (used s + m ≤ bytes)
  unfolding why_room
  room-has a =
      let k = accepted-both BlockRoom (ltb blocks (all_blocks s + n)) _ a in
      let d = accepted-both DataRoom (ltb bytes (used s + m)) accepted k.1 in
      (ltb-false blocks (all_blocks s + n) k.0, ltb-false bytes (used s + m) d.0)

-- rooms are within what is lent
module _ (s : State) (vs bs ss ns ms ps : List ℕ) where
  pub room-lent : (n m : ℕ) → all_blocks s + n ≤ block_room (lent vs bs ss ns ms) → used s + m ≤ data_room (lent vs bs ss ns ms)
      → (all_blocks s + n ≤ length ss) × (all_blocks s + n ≤ length ns) × (all_blocks s + n ≤ block_limit) × (used s + m ≤ length bs) × (used s + m ≤ byte_limit)
  unfolding block_room data_room
  room-lent n m h g = let t = length-table ss ns in (omega arith, omega arith, omega arith, omega arith, omega arith)

  -- ---- a block

  module _ (x : List ℕ) where
    abbrev here : Builder
    here = held s vs bs ss ns ms ps

    pub block_fit : fits_state here ≡ false → Err Fit ≡ why_block here x
    unfolding why_block refuse
    block_fit h = rw h

    pub block-long : fits_state here ≡ true → byte_limit < length x → Err TooLong ≡ why_block here x
    unfolding why_block refuse
    block-long h g = rw (h, lt-ltb byte_limit (length x) g)

    pub block_room_lem : (blocks bytes : ℕ) (w : Why) → fits_state here ≡ true → length x ≤ byte_limit → blocks ≡ room_of_blocks (length ss) (length ns)
        → bytes ≡ room_of_bytes (length bs)
        → w ≡ why_room s blocks bytes 1 (length x) → w ≡ why_block here x
    unfolding why_block refuse
    block_room_lem blocks bytes w h g eb ed e = e ∙ rw (
      h,
      le-ltb byte_limit (length x) g,
      eb ∙ blocks-room-is s vs bs ss ns ms ps,
      ed
          ∙ bytes-room-is s vs bs ss ns ms ps,
    )

    -- what an accepted block knows
    pub record Blocked : Type 0 where
      pub fit : Fitted s vs bs ss ns ms ps
      pub starts : all_blocks s < length ss
      pub lens : all_blocks s < length ns
      pub limit : all_blocks s < block_limit
      pub inside : used s + length x ≤ length bs
      pub small : used s + length x ≤ byte_limit

    pub blocked : is_accepted (why_block here x) ≡ true → Blocked
    unfolding why_block
    blocked a =
        let f = accepted-both Fit (not (fits_state here)) _ a in
        let l = accepted-both TooLong (ltb byte_limit (length x)) _ f.1 in
        let r = room-has s (block_room here.lent) (data_room here.lent) 1 (length x) l.1 in
        let g = room-lent 1 (length x) r.0 r.1 in
        record {
          fit = fits_gives s vs bs ss ns ms ps (not-false (fits_state here) f.0);
          starts = omega (arith, g.0);
          lens = omega (arith, g.1);
          limit = omega (arith, g.2);
          inside = g.3;
          small = g.4;
        }

    pub does-not-block : (w : Why) → w ≡ why_block here x → is_accepted w ≡ false
        → Does (λ b. why_block b x) (put_block x) s vs bs ss ns ms ps (answer w s) vs bs ss ns ms ps × (0 ≡ block_number here x)
    unfolding block_number
    does-not-block w e h = (does-no (λ b. why_block b x) (put_block x) s vs bs ss ns ms ps w e h, accepted-no (why_block here x) w (all_blocks s) 0 0 e h refl)

    pub does-block : (w : Why) (t : State) {u : State} {ss₁ ns₁ bs' ss' ns' : List ℕ} → w ≡ why_block here x → is_accepted w ≡ true → t ≡ closed s
        → ss₁ ≡ open_starts s ss → ns₁ ≡ open_lens s ns → u ≡ block_more (length x) t
        → bs' ≡ paste bs t.base x (length x) → ss' ≡ set ss₁ t.blocks t.base → ns' ≡ set ns₁ t.blocks (length x)
        → Does (λ b. why_block b x) (put_block x) s vs bs ss ns ms ps (answer accepted u) vs bs' ss' ns' ms ps × (t.blocks ≡ block_number here x)
    unfolding put_block lay_block complete closed recorded block_number
    does-block w t e h et e1 e2 eu eb es en =
        let j = blocked (ap is_accepted (sym e) ∙ h) in
        let T = (recorded s (lent vs bs ss ns ms)).table in
        let size = recorded-length s vs bs ss ns ms in
        let k : all_blocks s < length T = omega (arith, size, j.starts, j.lens) in
        let f = j.fit in (
          does-put (λ b. why_block b x) (put_block x) s vs bs ss ns ms ps (put_block x here) (is-accepted w (why_block here x) e h) refl
              (eu ∙ ap (block_more (length x)) et) refl
              (eb ∙ ap (λ (z : State). paste bs z.base x (length x)) et)
              (es ∙ (λ i. set (e1 i) (et i).blocks (et i).base) ∙ ap (λ (l : List ℕ). set l (all_blocks s) (used s)) (recorded-starts s vs bs ss ns
              ms f.starts f.lens)
              ∙ sym (starts-put T ss (all_blocks s) (used s) (length x) k))
              (en ∙ (λ i. set (e2 i) (et i).blocks (length x)) ∙ ap (λ (l : List ℕ). set l (all_blocks s) (length x)) (recorded-lens s vs bs ss ns ms
              f.starts f.lens)
              ∙ sym (lens-put T ns (all_blocks s) (used s) (length x) k))
              refl refl,
          ap (λ (z : State). z.blocks) et ∙ accepted-yes (why_block here x) w (all_blocks s) 0 (all_blocks s) e h refl,
        )

  -- ---- a view of a completed block

  module _ (k o n : ℕ) where
    abbrev at : Builder
    at = held s vs bs ss ns ms ps

    pub view-fit : fits_state at ≡ false → Err Fit ≡ why_view at k o n
    unfolding why_view refuse
    view-fit h = rw h

    module _ (fit : fits_state at ≡ true) where
      pub view-none : s.blocks ≤ k → Err NoBlock ≡ why_view at k o n
      unfolding why_view refuse
      view-none h = rw (fit, le-leb s.blocks k h)

      module _ (there : k < s.blocks) where
        in-ss : k < length ss
        in-ss = let f = fits_gives s vs bs ss ns ms ps fit in let a = all-bounds s in omega (arith, f.starts, a)

        in-ns : k < length ns
        in-ns = let f = fits_gives s vs bs ss ns ms ps fit in let a = all-bounds s in omega (arith, f.lens, a)

        record_is : block_at (lent vs bs ss ns ms) k ≡ block (get_or ss k 0) (get_or ns k 0)
        record_is = table_at ss ns k in-ss in-ns

        data_is : in_data (buffers [] bs [] []) (block (get_or ss k 0) (get_or ns k 0)) ≡ in_data (lent vs bs ss ns ms) (block_at (lent vs bs ss ns ms) k)
        data_is = block-in-data vs bs ss ns ms k in-ss in-ns

        pub view-outside : in_data (buffers [] bs [] []) (block (get_or ss k 0) (get_or ns k 0)) ≡ false → Err Range ≡ why_view at k o n
        unfolding why_view refuse
        view-outside h = rw (fit, lt-leb s.blocks k there, sym data_is ∙ h)

        module _ (inside : in_data (buffers [] bs [] []) (block (get_or ss k 0) (get_or ns k 0)) ≡ true) where
          len_is : (block_at (lent vs bs ss ns ms) k).len ≡ get_or ns k 0
          len_is = ap (λ (b : Block). b.len) record_is

          pub view-over : get_or ns k 0 < o + n → Err Range ≡ why_view at k o n
          unfolding why_view refuse
          view-over h = rw (fit, lt-leb s.blocks k there, sym data_is ∙ inside, len_is, lt-leb (o + n) (get_or ns k 0) h)

          module _ (range : o + n ≤ get_or ns k 0) where
            -- the bytes that the code takes
            pub view-part : take (get_or ss k 0 + o + n - (get_or ss k 0 + o)) (drop (get_or ss k 0 + o) bs) ≡ viewed at k o n
            unfolding viewed
            view-part =
                let f = fits_gives s vs bs ss ns ms ps fit in
                let a = all-bounds s in
                part-is bs (get_or ss k 0 + o) n (get_or ss k 0 + o) n refl refl
                ∙ sym (rw (
                  block-bytes vs bs ss ns ms s.blocks [] (omega (arith, f.starts, a)) (omega (arith, f.lens, a)) k there,
                  take_inner o n (get_or ns k 0) (drop (get_or ss k 0) bs) range,
                  drop-drop o (get_or ss k 0) bs,
                ))

            module _ (y : Bool) (ey : y ≡ of_kind s.kind (take (get_or ss k 0 + o + n - (get_or ss k 0 + o)) (drop (get_or ss k 0 + o) bs))) where
              kind-is : of_kind s.kind (viewed at k o n) ≡ y
              kind-is = ap (of_kind s.kind) (sym view-part) ∙ sym ey

              pub view-kind : y ≡ false → Err NotUtf8 ≡ why_view at k o n
              unfolding why_view refuse
              view-kind h = rw (fit, lt-leb s.blocks k there, sym data_is ∙ inside, len_is, le-leb (o + n) (get_or ns k 0) range, kind-is ∙ h)

              module _ (rows : ℕ) (er : rows ≡ room_of_rows s.merging (length vs) (length ms) (length ps)) (ok : y ≡ true) where
                pub view-full : rows ≤ s.rows → Err RowRoom ≡ why_view at k o n
                unfolding why_view refuse
                view-full h =
                    rw (
                      fit,
                      lt-leb s.blocks k there,
                      sym data_is ∙ inside,
                      len_is,
                      le-leb (o + n) (get_or ns k 0) range,
                      kind-is ∙ ok,
                      ← er
                          ∙ rows-room-is s vs bs ss ns ms ps,
                      le-leb rows s.rows h,
                    )

                pub view-fine : s.rows < rows → accepted ≡ why_view at k o n
                unfolding why_view refuse
                view-fine h =
                    rw (
                      fit,
                      lt-leb s.blocks k there,
                      sym data_is ∙ inside,
                      len_is,
                      le-leb (o + n) (get_or ns k 0) range,
                      kind-is ∙ ok,
                      ← er
                          ∙ rows-room-is s vs bs ss ns ms ps,
                      lt-leb rows s.rows h,
                    )

    -- what an accepted view knows
    pub record Seen : Type 0 where
      pub fit : fits_state at ≡ true
      pub there : k < s.blocks
      pub inside : in_data (buffers [] bs [] []) (block (get_or ss k 0) (get_or ns k 0)) ≡ true
      pub range : o + n ≤ get_or ns k 0
      pub room : s.rows < rows_room at

    pub seen : is_accepted (why_view at k o n) ≡ true → Seen
    unfolding why_view
    seen a =
        let f = accepted-both Fit (not (fits_state at)) _ a in
        let b = accepted-both NoBlock (leb s.blocks k) _ f.1 in
        let r = accepted-both Range (not (in_data (lent vs bs ss ns ms) (block_at (lent vs bs ss ns ms) k) && leb (o + n) (block_at (lent vs bs ss ns ms)
        k).len)) _ b.1 in
        let u = accepted-both NotUtf8 (not (of_kind s.kind (viewed at k o n))) _ r.1 in
        let m = accepted-both RowRoom (leb (rows_room at) s.rows) accepted u.1 in
        let fit = not-false (fits_state at) f.0 in
        let there = leb-false s.blocks k b.0 in
        let both = not-false _ r.0 in
        record {
          fit = fit;
          there = there;
          inside = data_is fit there ∙ and_left (in_data (lent vs bs ss ns ms) (block_at (lent vs bs ss ns ms) k)) _ both;
          range = leb-true (o + n) (get_or ns k 0) (ap (λ (z : ℕ). leb (o + n) z) (sym (ap (λ (b : Block). b.len) (record_is fit there)))
              ∙ and_right (in_data (lent vs bs ss ns ms) (block_at (lent vs bs ss ns ms) k)) _ both);
          room = leb-false (rows_room at) s.rows m.0;
        }

    -- in numbers
    pub seen-inside : Seen → (get_or ss k 0 + o + n ≤ length bs) × (get_or ss k 0 + o + n ≤ byte_limit)
    seen-inside g =
        let d = in-data-gives (buffers [] bs [] []) (get_or ss k 0) (get_or ns k 0) g.inside in
        let r = g.range in
        (omega (arith, d, r), omega (arith, d, r))

    pub does-view : (w : Why) {t : State} {vs' ms' : List ℕ} → w ≡ why_view at k o n → is_accepted w ≡ true → t ≡ rowed true s
        → vs' ≡ paste vs (16 * s.rows) (make_view (take (get_or ss k 0 + o + n - (get_or ss k 0 + o)) (drop (get_or ss k 0 + o) bs)) k o) 16
        → ms' ≡ put_bit ms s.rows true
        → Does (λ b. why_view b k o n) (put_view k o n) s vs bs ss ns ms ps (answer accepted t) vs' bs ss ns ms' ps
    unfolding put_view add_row
    does-view w e h et ev em =
        let g = seen (ap is_accepted (sym e) ∙ h) in
        does-put (λ b. why_view b k o n) (put_view k o n) s vs bs ss ns ms ps (put_view k o n at) (is-accepted w (why_view at k o n) e h) refl et
        (ev ∙ ap (λ (x : List ℕ). paste vs (16 * s.rows) (make_view x k o) 16) (view-part g.fit g.there g.inside g.range))
        refl (sym (starts-same ss ns)) (sym (lens_same ss ns)) em refl
