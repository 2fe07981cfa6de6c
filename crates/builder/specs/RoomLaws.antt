-- When a state fits its rooms, test by test; what an accepted call knows of the buffers; the value and null calls' verdicts. Assumes nothing.
use Rattle.std.specs.Prelude.{◌≡◌, Bool, not, List, ℕ, suc, ◌+◌, ◌*◌, ◌/◌, min, ◌≤◌, ◌<◌, leb, ltb, eqb, length, Ok, Err}
use Rattle.std.proofs.Math.Path.{refl}
use Rattle.std.proofs.Common.{sym, ◌∙◌, add-one}
use Rattle.std.proofs.Math.Bool.{true, false}
use native.Mathlib.Omega.{arith}
use borrow.Author.Tests.{le-leb, lt-leb, lt-ltb, le-ltb, leb-true, leb-false, ltb-false, eq-eqb, ne_eqb, not-false}
use Rattle.basis.specs.Pick.{pick}
use Rattle.bounds.specs.Bounds.{row_limit, block_limit, byte_limit}
use Rattle.bounds.specs.Refusals.{refuse, is_accepted, accepted-both, accepted, Why}
use Rattle.bounds.specs.declared.Refusal.{Refusal}
use Rattle.bounds.specs.declared.Refusal.TheVariants.{Fit, TooLong, NotUtf8, RowRoom}
use Rattle.growth.specs.Growing.{fits_growth}
use Rattle.column.specs.declared.Kind.{Kind}
use Rattle.column.specs.Lent.{lent, row_room, block_room, data_room}
use Rattle.column.specs.Truth.{of_kind}
use Rattle.column.proofs.FitLaws.{length-table, and_left, and_right, and_no}
use Rattle.builder.specs.declared.State.{State}
use Rattle.builder.specs.State.{Builder, held, rows_room, is_open, all_blocks, used, fits_rooms, fits_state}
use Rattle.builder.specs.Rooms.{room_of_rows, room_of_blocks, room_of_bytes, Ready}
use Rattle.builder.specs.Values.{why_rows, why_store, why_values, why_null}

-- ---- the blocks, the open one included

module _ (s : State) where
  pub all_none : s.fill ≡ 0 → s.blocks ≡ all_blocks s
  unfolding all_blocks
  all_none h = rw (eq-eqb s.fill 0 h)

  pub all-open : (s.fill ≡ 0 → ⊥) → s.blocks + 1 ≡ all_blocks s
  unfolding all_blocks
  all-open h = rw (ne_eqb s.fill 0 h) (add-one s.blocks)

  pub all-bounds : (s.blocks ≤ all_blocks s) × (all_blocks s ≤ s.blocks + 1)
  unfolding all_blocks
  all-bounds = by (is_open s)
    where
      by : (t : Bool) → (s.blocks ≤ pick t (suc s.blocks) s.blocks) × (pick t (suc s.blocks) s.blocks ≤ s.blocks + 1)
      by true = (omega arith, omega arith)
      by false = (omega arith, omega arith)

-- ---- a state fits rooms

module _ (s : State) (rows blocks bytes : ℕ) where
  pub fits-over-rows : rows < s.rows → false ≡ fits_rooms s rows blocks bytes
  unfolding fits_rooms
  fits-over-rows h = rw (lt-leb s.rows rows h)

  pub fits-over-blocks : blocks < all_blocks s → false ≡ fits_rooms s rows blocks bytes
  unfolding fits_rooms
  fits-over-blocks h = and_no (leb s.rows rows) _ (rw (lt-leb (all_blocks s) blocks h))

  pub fits-over-bytes : bytes < used s → false ≡ fits_rooms s rows blocks bytes
  unfolding fits_rooms
  fits-over-bytes h = and_no (leb s.rows rows) _ (sym (and_no (leb (all_blocks s) blocks) _ (rw (lt-leb (used s) bytes h))))

  pub fits_last : s.rows ≤ rows → all_blocks s ≤ blocks → used s ≤ bytes → fits_growth s.growth ≡ fits_rooms s rows blocks bytes
  unfolding fits_rooms
  fits_last h g k = rw (le-leb s.rows rows h, le-leb (all_blocks s) blocks g, le-leb (used s) bytes k)

-- ---- the rooms of what is lent

pub blocks-most : (ss ns : ℕ) → room_of_blocks ss ns ≤ block_limit
unfolding room_of_blocks
blocks-most ss ns = omega arith

module _ (s : State) (vs bs ss ns ms ps : List ℕ) where
  pub rows-room-is : room_of_rows s.merging (length vs) (length ms) (length ps) ≡ rows_room (held s vs bs ss ns ms ps)
  unfolding room_of_rows rows_room row_room
  rows-room-is = refl

  pub blocks-room-is : room_of_blocks (length ss) (length ns) ≡ block_room (lent vs bs ss ns ms)
  unfolding room_of_blocks block_room
  blocks-room-is = rw (length-table ss ns)

  pub bytes-room-is : room_of_bytes (length bs) ≡ data_room (lent vs bs ss ns ms)
  unfolding room_of_bytes data_room
  bytes-room-is = refl

  -- rooms as the code has them
  module _ (rows blocks bytes : ℕ) (er : rows ≡ room_of_rows s.merging (length vs) (length ms) (length ps)) (eb : blocks ≡ room_of_blocks (length ss)
      (length ns))
      (ed : bytes ≡ room_of_bytes (length bs)) where
    pub fits-is : fits_rooms s rows blocks bytes ≡ fits_state (held s vs bs ss ns ms ps)
    unfolding fits_state
    fits-is = rw (er ∙ rows-room-is, eb ∙ blocks-room-is, ed ∙ bytes-room-is)

    pub null_is : refuse Fit (not (fits_rooms s rows blocks bytes)) (refuse RowRoom (leb rows s.rows) accepted) ≡ why_null (held s vs bs ss ns ms ps)
    unfolding why_null
    null_is = rw (fits-is, er ∙ rows-room-is)

    pub first-is : (x : List ℕ) (n : ℕ) → refuse Fit (not (fits_rooms s rows blocks bytes)) (pick (eqb n 0) accepted (why_rows s.kind x s.rows n
        rows accepted))
        ≡ refuse Fit (not (fits_state (held s vs bs ss ns ms ps))) (pick (eqb n 0) accepted (why_rows s.kind x s.rows n
        (rows_room (held s vs bs ss ns ms ps)) accepted))
    first-is x n = rw (fits-is, er ∙ rows-room-is)

  -- what a state that fits keeps to
  pub record Fitted : Type 0 where
    pub rows : s.rows ≤ row_limit
    pub views : 16 * s.rows ≤ length vs
    pub blocks : all_blocks s ≤ block_limit
    pub starts : all_blocks s ≤ length ss
    pub lens : all_blocks s ≤ length ns
    pub small : used s ≤ byte_limit
    pub inside : used s ≤ length bs
    pub growth : fits_growth s.growth ≡ true

  pub fits_gives : fits_state (held s vs bs ss ns ms ps) ≡ true → Fitted
  unfolding fits_state fits_rooms rows_room row_room block_room data_room
  fits_gives h =
      let b = held s vs bs ss ns ms ps in
      let h1 = and_right (leb s.rows (rows_room b)) _ h in
      let h2 = and_right (leb (all_blocks s) (block_room b.lent)) _ h1 in
      let r = leb-true s.rows (rows_room b) (and_left (leb s.rows (rows_room b)) _ h) in
      let k = leb-true (all_blocks s) (block_room b.lent) (and_left (leb (all_blocks s) (block_room b.lent)) _ h1) in
      let d = leb-true (used s) (data_room b.lent) (and_left (leb (used s) (data_room b.lent)) _ h2) in
      let t = length-table ss ns in
      record {
        rows = omega arith;
        views = omega arith;
        blocks = omega arith;
        starts = omega arith;
        lens = omega arith;
        small = omega arith;
        inside = omega arith;
        growth = and_right (leb (used s) (data_room b.lent)) _ h2;
      }

  -- a row more has its view, its bit and its number
  pub record Roomy : Type 0 where
    pub rows : s.rows < row_limit
    pub views : 16 * s.rows + 16 ≤ length vs
    pub bits : s.rows / 8 < length ms

  pub room-gives : s.rows < rows_room (held s vs bs ss ns ms ps) → Roomy
  unfolding rows_room row_room
  room-gives h = record { rows = omega arith; views = omega arith; bits = omega arith }

  pub ready : Fitted → Ready s vs ss ns
  ready f = record { rows = f.views; starts = f.starts; lens = f.lens }

  -- ---- a null

  pub record NullFine : Type 0 where
    pub fit : fits_state (held s vs bs ss ns ms ps) ≡ true
    pub room : Roomy

  pub null-fine : is_accepted (why_null (held s vs bs ss ns ms ps)) ≡ true → NullFine
  unfolding why_null
  null-fine a =
      let b = held s vs bs ss ns ms ps in
      let f = accepted-both Fit (not (fits_state b)) _ a in
      let r = accepted-both RowRoom (leb (rows_room b) s.rows) accepted f.1 in
      record { fit = not-false (fits_state b) f.0; room = room-gives (leb-false (rows_room b) s.rows r.0) }

pub accepted-is : (w : Why) → is_accepted w ≡ true → w ≡ accepted
accepted-is (Ok _) h = refl
accepted-is (Err r) h = absurd (let z : ◌≡◌ {A = ℕ} 0 1 = cc in omega arith)

pub is-accepted : (w v : Why) → w ≡ v → is_accepted w ≡ true → v ≡ accepted
is-accepted w v e h = accepted-is v (rw e at h)

-- ---- a value's first tests: those before it is looked for

module _ (kind : Kind) (x : List ℕ) (rows more room : ℕ) where
  pub row-long : (w : Why) → byte_limit < length x → Err TooLong ≡ why_rows kind x rows more room w
  unfolding why_rows refuse
  row-long w h = rw (lt-ltb byte_limit (length x) h)

  pub row-kind : (w : Why) → length x ≤ byte_limit → of_kind kind x ≡ false → Err NotUtf8 ≡ why_rows kind x rows more room w
  unfolding why_rows refuse
  row-kind w h k = rw (le-ltb byte_limit (length x) h, k)

  pub row-over : (w : Why) → length x ≤ byte_limit → of_kind kind x ≡ true → room < rows + more → Err RowRoom ≡ why_rows kind x rows more room w
  unfolding why_rows refuse
  row-over w h k r = rw (le-ltb byte_limit (length x) h, k, lt-ltb room (rows + more) r)

  pub row_on : (w : Why) → length x ≤ byte_limit → of_kind kind x ≡ true → rows + more ≤ room → w ≡ why_rows kind x rows more room w
  unfolding why_rows refuse
  row_on w h k r = rw (le-ltb byte_limit (length x) h, k, le-ltb room (rows + more) r)

-- a test passes the later ones on
pub refuse-same : (r : Refusal) (b : Bool) (v w : Why) → (is_accepted v ≡ false → v ≡ w) → is_accepted (refuse r b v) ≡ false → refuse r b v ≡ refuse r b w
unfolding refuse
refuse-same r true v w f h = refl
refuse-same r false v w f h = f h

pub refuse-on : (r : Refusal) (b : Bool) (v w u : Why) → (is_accepted v ≡ true → w ≡ u) → is_accepted (refuse r b v) ≡ true → refuse r b w ≡ u
unfolding refuse
refuse-on r true v w u f h = absurd (let z : ◌≡◌ {A = ℕ} 0 1 = cc in omega arith)
refuse-on r false v w u f h = f h

pub never : (w : Why) → is_accepted accepted ≡ false → accepted ≡ w
never w h = absurd (let z : ◌≡◌ {A = ℕ} 0 1 = cc in omega arith)

module _ (b : Builder) (x : List ℕ) where
  -- what is known of a value that is added once or more
  pub record Judged : Type 0 where
    pub fit : fits_state b ≡ true
    pub small : length x ≤ byte_limit
    pub room : b.state.rows < rows_room b

  module _ (n : ℕ) where
    abbrev pub rows_of : Why → Why
    rows_of w = why_rows b.state.kind x b.state.rows n (rows_room b) w

    abbrev pub first_of : Why
    first_of = refuse Fit (not (fits_state b)) (pick (eqb n 0) accepted (rows_of accepted))

    row-no : is_accepted (rows_of accepted) ≡ false → rows_of accepted ≡ rows_of (why_store b x)
    unfolding why_rows
    row-no h =
        refuse-same TooLong (ltb byte_limit (length x)) _ _
        (refuse-same NotUtf8 (not (of_kind b.state.kind x)) _ _
        (refuse-same RowRoom (ltb (rows_room b) (b.state.rows + n)) accepted (why_store b x) (never (why_store b x)))) h

    row-yes : is_accepted (rows_of accepted) ≡ true → rows_of (why_store b x) ≡ why_store b x
    unfolding why_rows
    row-yes h =
        refuse-on TooLong (ltb byte_limit (length x)) _ _ (why_store b x)
        (refuse-on NotUtf8 (not (of_kind b.state.kind x)) _ _ (why_store b x)
        (refuse-on RowRoom (ltb (rows_room b) (b.state.rows + n)) accepted (why_store b x) (why_store b x) (λ z. refl))) h

    pub value-no : is_accepted first_of ≡ false → first_of ≡ why_values n b x
    unfolding why_values
    value-no h = refuse-same Fit (not (fits_state b)) _ _ (by (eqb n 0)) h
      where
        by : (t : Bool) → is_accepted (pick t accepted (rows_of accepted)) ≡ false → pick t accepted (rows_of accepted) ≡ pick t accepted (rows_of (why_store b x))
        by true k = refl
        by false k = row-no k

    pub value_none : is_accepted first_of ≡ true → n ≡ 0 → why_values n b x ≡ accepted
    unfolding why_values
    value_none h e = refuse-on Fit (not (fits_state b)) _ _ accepted (λ z. rw (eq-eqb n 0 e)) h

    pub value_on : is_accepted first_of ≡ true → (n ≡ 0 → ⊥) → why_values n b x ≡ why_store b x
    unfolding why_values
    value_on h e = refuse-on Fit (not (fits_state b)) _ _ (why_store b x) (λ z. rw (ne_eqb n 0 e) (row-yes (rw (ne_eqb n 0 e) at z))) h

    pub judged : is_accepted first_of ≡ true → (n ≡ 0 → ⊥) → Judged × (b.state.rows + n ≤ rows_room b)
    unfolding why_rows
    judged a e =
        let f = accepted-both Fit (not (fits_state b)) _ a in
        let g : is_accepted (rows_of accepted) ≡ true = rw (ne_eqb n 0 e) at f.1 in
        let l = accepted-both TooLong (ltb byte_limit (length x)) _ g in
        let k = accepted-both NotUtf8 (not (of_kind b.state.kind x)) _ l.1 in
        let r = ltb-false (rows_room b) (b.state.rows + n) (accepted-both RowRoom (ltb (rows_room b) (b.state.rows + n)) accepted k.1).0 in
        (record { fit = not-false (fits_state b) f.0; small = ltb-false byte_limit (length x) l.0; room = omega (arith, e) }, r)

-- a map longer than any that is asked for
pub map-enough : (a n : ℕ) → min 32767 (min a (8 * min n 4096)) ≡ min 32767 (min a (8 * n))
map-enough a n = omega arith

pub fits-rows : (s : State) (rows blocks bytes : ℕ) → fits_rooms s rows blocks bytes ≡ true → s.rows ≤ rows
unfolding fits_rooms
fits-rows s rows blocks bytes h = leb-true s.rows rows (and_left (leb s.rows rows) _ h)

-- n rows more have their views, their bits and their numbers
pub room-many : (s : State) (vs bs ss ns ms ps : List ℕ) (n : ℕ) → s.rows + n ≤ rows_room (held s vs bs ss ns ms ps)
    → (s.rows + n ≤ row_limit) × (16 * (s.rows + n) ≤ length vs) × (s.rows + n ≤ 8 * length ms)
unfolding rows_room row_room
room-many s vs bs ss ns ms ps n h = (omega arith, omega arith, omega arith)
