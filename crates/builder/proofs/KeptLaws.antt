-- A state that fits its buffers still fits them after a value is added. Assumes nothing.
use Rattle.std.specs.Prelude.{◌≡◌, Bool, ◌&&◌, List, length, Ok, Err}
use Rattle.std.proofs.Math.Path.{refl}
use Rattle.std.proofs.Common.{sym, ap, ◌∙◌, arith}
use Rattle.std.proofs.Math.Bool.{true, false, not}
use Prim.Native.Nat.{ℕ, suc, ◌+◌, ◌≤◌, ◌<◌}
use borrow.Author.Tests.{le-leb, leb-true, leb-false, ne_eqb}
use Rattle.std.proofs.Math.Dec.{leb}
use Rattle.basis.specs.Pick.{pick}
use Rattle.bounds.specs.Refusals.{is_accepted, if_accepted, accepted-both, accepted, Why}
use Rattle.bounds.specs.declared.Refusal.TheVariants.{BlockRoom}
use Rattle.growth.specs.GrowthLaws.{grown-fits}
use Rattle.growth.specs.Growing.{fits_growth}
use Rattle.views.specs.View.{is_short, short_most, short_view, view_at}
use Rattle.merging.specs.Table.{is_row, row_of}
use Rattle.column.specs.Lent.{block_room, data_room}
use Rattle.column.proofs.FitLaws.{and_left, and_right}
use Rattle.builder.specs.declared.State.{State}
use Rattle.builder.specs.declared.Answer.{Answer}
use Rattle.builder.specs.State.{Builder, held, rows_room, is_open, all_blocks, used, fits_rooms, fits_state, closed, sized, fits_open, roomed, make_room, laid, lay, rowed, add_row}
use Rattle.builder.specs.Values.{found, why_lay, why_store, enter, store, put_found, put_value}
use Rattle.builder.specs.Rooms.{room_of_rows, room_of_blocks, room_of_bytes}
use Rattle.builder.specs.RoomLaws.{rows-room-is, blocks-room-is, bytes-room-is, fits-is}
use Rattle.builder.proofs.PutLaws.{lay-room, room-rows}
use Rattle.builder.specs.Does.{Does, left}

-- the four tests, as facts
record Fits (s : State) (rows blocks bytes : ℕ) : Type 0 where
  row : s.rows ≤ rows
  block : all_blocks s ≤ blocks
  byte : used s ≤ bytes
  size : fits_growth s.growth ≡ true

module _ (s : State) (rows blocks bytes : ℕ) where
  fits-are : fits_rooms s rows blocks bytes ≡ true → Fits s rows blocks bytes
  unfolding fits_rooms
  fits-are e =
      let p = and_right (leb s.rows rows) _ e in
      let q = and_right (leb (all_blocks s) blocks) _ p in
      record {
        row = leb-true _ _ (and_left (leb s.rows rows) _ e);
        block = leb-true _ _ (and_left (leb (all_blocks s) blocks) _ p);
        byte = leb-true _ _ (and_left (leb (used s) bytes) _ q);
        size = and_right (leb (used s) bytes) _ q;
      }

  are-fits : Fits s rows blocks bytes → fits_rooms s rows blocks bytes ≡ true
  unfolding fits_rooms
  are-fits f = rw (le-leb s.rows rows f.row, le-leb (all_blocks s) blocks f.block, le-leb (used s) bytes f.byte) f.size

  fits-row : s.rows < rows → Fits s rows blocks bytes → Fits (rowed true s) rows blocks bytes
  unfolding all_blocks
  fits-row h f = record { row = h; block = f.block; byte = f.byte; size = f.size }

  -- room made for n bytes more, and the bytes laid there
  module _ (n : ℕ) (some : 0 < n) (f : Fits s rows blocks bytes) (d : used s + n ≤ bytes) where
    more : (k : ℕ) → k + n ≡ 0 → ⊥
    more k e = absurd (omega arith)

    laid-open : fits_open s n ≡ true → Fits (laid n s) rows blocks bytes
    unfolding fits_open all_blocks
    laid-open e =
        let o : pick (is_open s) (suc s.blocks) s.blocks ≡ suc s.blocks = rw (and_left (is_open s) _ e) in
        record {
          row = f.row;
          block = rw (ne_eqb (s.fill + n) 0 (more s.fill)) (omega (arith, o, f.block));
          byte = omega arith;
          size = f.size;
        }

    laid-new : all_blocks s < blocks → Fits (laid n (sized n (closed s))) rows blocks bytes
    unfolding sized closed all_blocks
    laid-new h =
        record {
          row = f.row;
          block = rw (ne_eqb (0 + n) 0 (more 0)) h;
          byte = omega arith;
          size = grown-fits s.growth f.size;
        }

    fits-laid : not (fits_open s n) && leb blocks (all_blocks s) ≡ false → Fits (laid n (roomed n s)) rows blocks bytes
    unfolding roomed
    fits-laid k = by (fits_open s n) refl k
      where
        by : (t : Bool) → fits_open s n ≡ t → not t && leb blocks (all_blocks s) ≡ false → Fits (laid n (pick t s (sized n (closed s)))) rows blocks bytes
        by true e k = laid-open e
        by false e k = laid-new (leb-false blocks (all_blocks s) k)

  rooms-laid : (n : ℕ) → 0 < n → Fits s rows blocks bytes → is_accepted (why_lay s blocks bytes n) ≡ true → Fits (laid n (roomed n s)) rows blocks bytes
  unfolding why_lay
  rooms-laid n h f a = fits-laid n h f (lay-room s blocks bytes n a) (accepted-both BlockRoom (not (fits_open s n) && leb blocks (all_blocks s)) _ a).0

room-merging : (n : ℕ) (s : State) → (roomed n s).merging ≡ s.merging
unfolding roomed sized closed
room-merging n s = by (fits_open s n)
  where
    by : (t : Bool) → (pick t s (sized n (closed s))).merging ≡ s.merging
    by true = refl
    by false = refl

-- a value that is added where a row has room
module _ (b : Builder) (x : List ℕ) where
  abbrev s : State
  s = b.state

  abbrev stored : State
  stored = rowed true (laid (length x) (roomed (length x) s))

  put-state : (put_value x b).state ≡ pick (is_short (length x)) (rowed true s) (pick (is_row (found b x)) (rowed true s) stored)
  unfolding put_value put_found store make_room lay add_row
  put-state = by (is_short (length x)) (is_row (found b x))
    where
      by : (t u : Bool)
          → (pick t (add_row (short_view x) true b) (pick u (add_row (view_at b.lent.views (row_of (found b x))) true b)
          (store x (make_room (length x) (enter (found b x) b))))).state ≡ pick t (rowed true s) (pick u (rowed true s) stored)
      by true u = refl
      by false true = refl
      by false false = refl

  module _ (rows blocks bytes : ℕ) (room : s.rows < rows) (f : Fits s rows blocks bytes) where
    -- what is left, by the tests
    abbrev after : Bool → Bool → Why → State
    after t u w = if_accepted (pick t accepted (pick u accepted w)) (pick t (rowed true s) (pick u (rowed true s) stored)) s

    after-fits : (t u : Bool) (w : Why) → is_short (length x) ≡ t → w ≡ why_lay s blocks bytes (length x) → Fits (after t u w) rows blocks bytes
    after-fits true u w e q = fits-row s rows blocks bytes room f
    after-fits false true w e q = fits-row s rows blocks bytes room f
    after-fits false false (Ok _) e q =
        let l = leb-false (length x) short_most e in
        let k = rooms-laid s rows blocks bytes (length x) (omega arith) f (ap is_accepted (sym q)) in
        fits-row (laid (length x) (roomed (length x) s)) rows blocks bytes (omega (arith, room, room-rows s (length x))) k
    after-fits false false (Err r) e q = f

    after-merging : (t u : Bool) (w : Why) → (after t u w).merging ≡ s.merging
    after-merging true u w = refl
    after-merging false true w = refl
    after-merging false false (Ok _) = room-merging (length x) s
    after-merging false false (Err r) = refl

  left_is : (left (λ b. why_store b x) (put_value x) b).state ≡ if_accepted (why_store b x) (put_value x b).state s
  left_is = by (why_store b x)
    where
      by : (w : Why) → (if_accepted w (put_value x b) b).state ≡ if_accepted w (put_value x b).state s
      by (Ok _) = refl
      by (Err r) = refl

  module _ (fit : fits_state b ≡ true) (room : s.rows < rows_room b) where
    pub left-fits : fits_rooms (left (λ b. why_store b x) (put_value x) b).state (rows_room b) (block_room b.lent) (data_room b.lent) ≡ true
    unfolding fits_state why_store
    left-fits =
        let f = fits-are s (rows_room b) (block_room b.lent) (data_room b.lent) fit in
        rw (left_is, put-state) (are-fits _ (rows_room b) (block_room b.lent) (data_room b.lent)
        (after-fits (rows_room b) (block_room b.lent) (data_room b.lent) room f (is_short (length x)) (is_row (found b x)) _ refl refl))

    pub left-merging : (left (λ b. why_store b x) (put_value x) b).state.merging ≡ s.merging
    unfolding fits_state why_store
    left-merging =
        let f = fits-are s (rows_room b) (block_room b.lent) (data_room b.lent) fit in
        rw (left_is, put-state)
        (after-merging (rows_room b) (block_room b.lent) (data_room b.lent) room f (is_short (length x)) (is_row (found b x)) (why_lay s (block_room b.lent)
        (data_room b.lent) (length x)))

-- the same of what a call answers and leaves
module _ (s : State) (vs bs ss ns ms ps x : List ℕ) {r : Answer} {vs' bs' ss' ns' ms' ps' : List ℕ}
    (d : Does (λ b. why_store b x) (put_value x) s vs bs ss ns ms ps r vs' bs' ss' ns' ms' ps') (fit : fits_state (held s vs bs ss ns ms ps) ≡ true)
    (room : s.rows < rows_room (held s vs bs ss ns ms ps)) where
  left-state : r.state ≡ (left (λ b. why_store b x) (put_value x) (held s vs bs ss ns ms ps)).state
  left-state = ap (λ (z : Answer). z.state) d.answers

  pub kept-merging : r.state.merging ≡ s.merging
  kept-merging = ap (λ (z : State). z.merging) left-state ∙ left-merging (held s vs bs ss ns ms ps) x fit room

  pub kept-fits : length vs' ≡ length vs → length bs' ≡ length bs → length ss' ≡ length ss → length ns' ≡ length ns → length ms' ≡ length ms
      → length ps' ≡ length ps → fits_state (held r.state vs' bs' ss' ns' ms' ps') ≡ true
  kept-fits ev eb es en em ep =
      let rows : rows_room (held s vs bs ss ns ms ps) ≡ room_of_rows r.state.merging (length vs') (length ms') (length ps') =
      rw (kept-merging, ev, em, ep) (sym (rows-room-is s vs bs ss ns ms ps)) in
      let blocks : block_room (held s vs bs ss ns ms ps).lent ≡ room_of_blocks (length ss') (length ns') = rw (es, en) (sym
      (blocks-room-is s vs bs ss ns ms ps)) in
      let bytes : data_room (held s vs bs ss ns ms ps).lent ≡ room_of_bytes (length bs') = rw eb (sym (bytes-room-is s vs bs ss ns ms ps)) in
      sym (fits-is r.state vs' bs' ss' ns' ms' ps' _ _ _ rows blocks bytes) ∙ rw left-state (left-fits (held s vs bs ss ns ms ps) x fit room)
