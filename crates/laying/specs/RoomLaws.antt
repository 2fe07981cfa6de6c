-- The verdict on rooms as the code finds it, and what an accepted one tells. Assumes nothing.
use Rattle.std.specs.Prelude.{◌≡◌, Bool, true, false, [], ℕ, ◌+◌, ◌≤◌, ltb, Ok, Err}
use Rattle.std.proofs.Math.Path.{refl}
use Rattle.std.proofs.Common.{sym, ◌∙◌, true≢false, arith}
use borrow.Author.Tests.{leb-true, leb-false, lt-ltb, le-ltb, ltb-false}
use Rattle.bounds.specs.Refusals.{refuse, is_accepted, if_accepted, refuse-yes, refuse-no, accepted-both, accepted, Why}
use Rattle.bounds.specs.declared.Refusal.TheVariants.{RowRoom, BlockRoom, DataRoom}
use Rattle.column.specs.declared.Column.{Column}
use Rattle.column.specs.declared.Kind.TheVariants.{Binary}
use Rattle.column.specs.Lent.{Lent, buffers, block, fits, in_data, row_room, block_room, data_room}
use Rattle.showing.specs.Rooms.{fitting, fitted}
use Rattle.laying.specs.Rooms.{why_rooms}

abbrev anew : Bool → ℕ → ℕ → Column
anew mapped rows blocks = record { first = 0; rows = rows; blocks = blocks; kind = Binary; mapped = mapped }

-- what an accepted verdict tells
pub record RoomGiven (rs ks ds rows blocks bytes : ℕ) : Type 0 where
  pub row : rows ≤ rs
  pub block : blocks ≤ ks
  pub byte : bytes ≤ ds

module _ (mapped : Bool) (rows blocks bytes : ℕ) (out : Lent) where
  abbrev sixth : Why
  sixth = refuse BlockRoom (ltb (block_room out) blocks) (refuse DataRoom (ltb (data_room out) bytes) accepted)

  rows-no : fits out (anew mapped rows 0) ≡ true → ltb (row_room mapped out) rows ≡ false
  rows-no h = let f = fitting out (anew mapped rows 0) h in le-ltb (row_room mapped out) rows (omega arith)

  rows-yes : fits out (anew mapped rows 0) ≡ false → ltb (row_room mapped out) rows ≡ true
  rows-yes h = by (ltb (row_room mapped out) rows) refl
    where
      by : (t : Bool) → ltb (row_room mapped out) rows ≡ t → t ≡ true
      by true e = refl
      by false e =
          let k = ltb-false (row_room mapped out) rows e in
          let f = fitted out (anew mapped rows 0) (record { rows = omega arith; blocks = omega arith }) in
          absurd (true≢false (sym f ∙ h))

  blocks-no : fits out (anew mapped rows blocks) ≡ true → ltb (block_room out) blocks ≡ false
  blocks-no h = let f = fitting out (anew mapped rows blocks) h in le-ltb (block_room out) blocks (omega arith)

  blocks-yes : fits out (anew mapped rows 0) ≡ true → fits out (anew mapped rows blocks) ≡ false → ltb (block_room out) blocks ≡ true
  blocks-yes g h = by (ltb (block_room out) blocks) refl
    where
      by : (t : Bool) → ltb (block_room out) blocks ≡ t → t ≡ true
      by true e = refl
      by false e =
          let k = ltb-false (block_room out) blocks e in
          let r = fitting out (anew mapped rows 0) g in
          let f = fitted out (anew mapped rows blocks) (record { rows = r.rows; blocks = k }) in
          absurd (true≢false (sym f ∙ h))

  pub rooms-five : fits out (anew mapped rows 0) ≡ false → Err RowRoom ≡ why_rooms mapped rows blocks bytes out
  unfolding why_rooms
  rooms-five h = refuse-yes RowRoom (ltb (row_room mapped out) rows) sixth (Err RowRoom) (rows-yes h) refl

  pub rooms-six : fits out (anew mapped rows 0) ≡ true → fits out (anew mapped rows blocks) ≡ false → Err BlockRoom ≡ why_rooms mapped rows blocks bytes out
  unfolding why_rooms
  rooms-six g h =
      refuse-no RowRoom (ltb (row_room mapped out) rows) sixth (Err BlockRoom) (rows-no g)
      (refuse-yes BlockRoom (ltb (block_room out) blocks) (refuse DataRoom (ltb (data_room out) bytes) accepted) (Err BlockRoom) (blocks-yes g h) refl)

  past-six : (w : Why) → fits out (anew mapped rows 0) ≡ true → fits out (anew mapped rows blocks) ≡ true
      → w ≡ refuse DataRoom (ltb (data_room out) bytes) accepted → w ≡ why_rooms mapped rows blocks bytes out
  unfolding why_rooms
  past-six w g h e =
      refuse-no RowRoom (ltb (row_room mapped out) rows) sixth w (rows-no g)
      (refuse-no BlockRoom (ltb (block_room out) blocks) (refuse DataRoom (ltb (data_room out) bytes) accepted) w (blocks-no h) e)

  abbrev lies : Bool
  lies = in_data (buffers [] out.bytes [] []) (block 0 bytes)

  data-no : lies ≡ true → ltb (data_room out) bytes ≡ false
  unfolding in_data data_room
  data-no h = let g = leb-true (0 + bytes) (data_room out) h in le-ltb (data_room out) bytes (omega arith)

  data-yes : lies ≡ false → ltb (data_room out) bytes ≡ true
  unfolding in_data data_room
  data-yes h = let g = leb-false (0 + bytes) (data_room out) h in lt-ltb (data_room out) bytes (omega arith)

  pub rooms-seven : fits out (anew mapped rows 0) ≡ true → fits out (anew mapped rows blocks) ≡ true → lies ≡ false → Err DataRoom
      ≡ why_rooms mapped rows blocks bytes out
  rooms-seven g h d = past-six (Err DataRoom) g h (refuse-yes DataRoom (ltb (data_room out) bytes) accepted (Err DataRoom) (data-yes d) refl)

  pub rooms-yes : fits out (anew mapped rows 0) ≡ true → fits out (anew mapped rows blocks) ≡ true → lies ≡ true → accepted ≡ why_rooms mapped rows
      blocks bytes out
  rooms-yes g h d = past-six accepted g h (refuse-no DataRoom (ltb (data_room out) bytes) accepted accepted (data-no d) refl)

  pub rooms-give : is_accepted (why_rooms mapped rows blocks bytes out) ≡ true → RoomGiven (row_room mapped out) (block_room out) (data_room out) rows blocks bytes
  unfolding why_rooms
  rooms-give a =
      let f = accepted-both RowRoom (ltb (row_room mapped out) rows) sixth a in
      let g = accepted-both BlockRoom (ltb (block_room out) blocks) (refuse DataRoom (ltb (data_room out) bytes) accepted) f.1 in
      let h = accepted-both DataRoom (ltb (data_room out) bytes) accepted g.1 in
      record { row = ltb-false (row_room mapped out) rows f.0; block = ltb-false (block_room out) blocks g.0; byte = ltb-false (data_room out) bytes h.0 }

-- z is the side that an accepted call takes
pub taken : {A : Type 0} (w : Why) (x y z : A) → is_accepted w ≡ true → z ≡ if_accepted w x y → z ≡ x
taken (Ok _) x y z h e = e
taken (Err r) x y z h e = absurd (true≢false (sym h))
