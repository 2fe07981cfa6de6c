-- Where the value of a row stands with the open block under the next number, and the question and the value. Assumes nothing.
use Rattle.std.specs.Prelude.{◌≡◌, false, not, ℕ, ◌+◌, ◌*◌, ◌≤◌, ◌<◌, leb, length, get_or, Err}
use Rattle.std.proofs.Math.Path.{refl, sym, ap}
use Rattle.std.proofs.Common.{◌∙◌, add_comm, arith}
use Rattle.std.proofs.Math.Bool.{true}
use mathlib.Core.List.{List, []}
use Rattle.std.proofs.Math.Nat.{zero-add}
use borrow.Author.Tests.{le-leb, lt-leb, leb-false, not-false}
use Rattle.basis.specs.Pick.{if_lt}
use Rattle.bounds.specs.Refusals.{refuse, is_accepted, accepted-both, accepted-yes, accepted-no, accepted, Why}
use Rattle.bounds.specs.declared.Refusal.TheVariants.{Fit, Row, BadView}
use Rattle.views.specs.View.{view_size, view_at, block_of}
use Rattle.column.specs.declared.Block.{Block}
use Rattle.column.specs.declared.Spot.{Spot}
use Rattle.column.specs.Lent.{Lent, lent, buffers, block, table_of, in_data, data_room}
use Rattle.column.specs.Room.{bare}
use Rattle.column.specs.Meaning.{blocks_of, shown, shown_at}
use Rattle.column.specs.Truth.{reach_of, reach_by, is_inside, reachable}
use Rattle.column.specs.Spot.{spot_of, spot_in, bytes_at, points_to, further, Lies, Names}
use Rattle.column.proofs.FitLaws.{table_at}
use Rattle.column.proofs.SpotLaws.{spot_is, found-lies, found-reach, spot-shown}
use Rattle.builder.specs.declared.State.{State}
use Rattle.builder.specs.State.{Builder, held, all_blocks, fits_state, recorded}
use Rattle.builder.specs.Rooms.{open_starts, open_lens, Ready}
use Rattle.builder.specs.Get.{why_get, get_value}
use Rattle.builder.specs.DoesLaws.{recorded-is}
use Rattle.builder.specs.SearchLaws.{start-at, size-at, in-starts, in_lens}
use Rattle.finishing.specs.Places.{spot_row, get_points}

module _ (s : State) (vs bs ss ns : List ℕ) (r : ℕ) (rd : Ready s vs ss ns) where
  abbrev there : List Block
  there = table_of (open_starts s ss) (open_lens s ns)

  abbrev view : List ℕ
  view = view_at vs r

  -- the record of the block that a view names, by the numbers of the state
  pub row-record : (k start len : ℕ) → k ≡ block_of view → k < all_blocks s → start ≡ if_lt k s.blocks (get_or ss k 0) s.base
      → len ≡ if_lt k s.blocks (get_or ns k 0) s.fill → block start len ≡ get_or there (block_of view) (block 0 0)
  row-record k start len ek h es el =
      let p : start ≡ get_or (open_starts s ss) k 0 = es ∙ start-at s ss k h rd.starts in
      let q : len ≡ get_or (open_lens s ns) k 0 = el ∙ size-at s ns k h rd.lens in
      let m = in-starts s vs bs ss ns [] r rd in
      let n = in_lens s vs bs ss ns [] r rd in
      rw (p, q, ← ek) (sym (table_at (open_starts s ss) (open_lens s ns) k (omega (arith, h, m)) (omega (arith, h, n))))

  -- where its value stands, by that record
  pub row-spot : (room : ℕ) (b : Block) (x : Spot) → room ≡ data_room (buffers [] bs [] []) → x ≡ spot_of room (all_blocks s) b view r
      → Names there (all_blocks s) view b → x ≡ spot_row s (bare vs bs ss ns) r
  row-spot room b x er ex e = rw (recorded-is s vs bs ss ns []) (spot_is vs bs room (all_blocks s) b r x er ex there [] e)

module _ (s : State) (vs bs ss ns : List ℕ) (r : ℕ) (x : Spot) (e : x ≡ spot_row s (bare vs bs ss ns) r) where
  in_table : x ≡ spot_in (lent vs bs (open_starts s ss) (open_lens s ns) []) (all_blocks s) (view_at vs r) r
  in_table = e ∙ ap (λ (l : Lent). spot_in l (all_blocks s) (view_at vs r) r) (recorded-is s vs bs ss ns [])

  pub row-reach : is_inside (reach_by x) ≡ reachable (recorded s (bare vs bs ss ns)) (all_blocks s) (view_at vs r)
  row-reach = rw (recorded-is s vs bs ss ns []) (found-reach vs bs [] (table_of (open_starts s ss) (open_lens s ns)) (all_blocks s) r x in_table)

  pub row_lies : view_size * r + view_size ≤ length vs → Lies vs bs x
  row_lies h = found-lies vs bs [] (table_of (open_starts s ss) (open_lens s ns)) (all_blocks s) r x in_table h

  pub row-shown : reachable (recorded s (bare vs bs ss ns)) (all_blocks s) (view_at vs r) ≡ true
      → bytes_at vs bs x ≡ shown (blocks_of (recorded s (bare vs bs ss ns)) (all_blocks s)) (view_at vs r)
  row-shown h = rw (recorded-is s vs bs ss ns [])
      (spot-shown vs bs [] (table_of (open_starts s ss) (open_lens s ns)) (all_blocks s) r x in_table (row-reach ∙ h))

-- ---- the question and the value

module _ (s : State) (vs bs ss ns ms ps : List ℕ) (r : ℕ) where
  abbrev here : Builder
  here = held s vs bs ss ns ms ps

  pub get_fit : fits_state here ≡ false → Err Fit ≡ why_get here r
  unfolding why_get refuse
  get_fit h = rw h

  pub get-late : fits_state here ≡ true → s.rows ≤ r → Err Row ≡ why_get here r
  unfolding why_get refuse
  get-late h g = rw (h, le-leb s.rows r g)

  whole : reachable (recorded s (bare vs bs ss ns)) (all_blocks s) (view_at vs r) ≡ reachable (recorded s (lent vs bs ss ns ms)) (all_blocks s) (view_at vs r)
  unfolding recorded reachable reach_of in_data data_room
  whole = refl

  pub get-bad : fits_state here ≡ true → r < s.rows → reachable (recorded s (bare vs bs ss ns)) (all_blocks s) (view_at vs r) ≡ false
      → Err (BadView r) ≡ why_get here r
  unfolding why_get refuse recorded
  get-bad h g f = rw (h, lt-leb s.rows r g, zero-add r, sym whole ∙ f)

  pub get-fine : fits_state here ≡ true → r < s.rows → reachable (recorded s (bare vs bs ss ns)) (all_blocks s) (view_at vs r) ≡ true → accepted ≡ why_get here r
  unfolding why_get refuse recorded
  get-fine h g f = rw (h, lt-leb s.rows r g, zero-add r, sym whole ∙ f)

  -- what an accepted question knows
  pub record Got : Type 0 where
    pub fit : fits_state here ≡ true
    pub row : r < s.rows
    pub reach : reachable (recorded s (bare vs bs ss ns)) (all_blocks s) (view_at vs r) ≡ true

  pub got : is_accepted (why_get here r) ≡ true → Got
  unfolding why_get recorded
  got a =
      let f = accepted-both Fit (not (fits_state here)) _ a in
      let g = accepted-both Row (leb s.rows r) _ f.1 in
      let k = accepted-both (BadView r) _ accepted g.1 in
      let z : reachable (recorded s (lent vs bs ss ns ms)) (all_blocks s) (view_at vs (0 + r)) ≡ true = not-false _ k.0 in
      record { fit = not-false _ f.0; row = leb-false s.rows r g.0; reach = whole ∙ rw (zero-add r) at z }

  pub value-no : (w : Why) (x : List ℕ) → w ≡ why_get here r → is_accepted w ≡ false → x ≡ [] → x ≡ get_value here r
  unfolding get_value
  value-no w x e h p = accepted-no (why_get here r) w _ [] x e h p

  pub value-yes : (w : Why) (x : List ℕ) → w ≡ why_get here r → is_accepted w ≡ true
      → x ≡ shown (blocks_of (recorded s (bare vs bs ss ns)) (all_blocks s)) (view_at vs r) → x ≡ get_value here r
  unfolding get_value shown_at recorded blocks_of
  value-yes w x e h p = accepted-yes (why_get here r) w _ [] x e h (p ∙ rw (zero-add r))

  pub points-no : (w : Why) (v d y : ℕ × ℕ) → w ≡ why_get here r → is_accepted w ≡ false → y ≡ (v.0, 0 + v.1) → y ≡ get_points here r v d
  unfolding get_points
  points-no w v d y e h p = accepted-no (why_get here r) w _ (further v 0) y e h (p ∙ ap (λ (k : ℕ). (v.0, k)) (add_comm 0 v.1))

  pub points-yes : (w : Why) (v d y : ℕ × ℕ) → w ≡ why_get here r → is_accepted w ≡ true → y ≡ points_to v d (spot_row s (bare vs bs ss ns) r)
      → y ≡ get_points here r v d
  unfolding get_points recorded data_room
  points-yes w v d y e h p = accepted-yes (why_get here r) w _ (further v 0) y e h p
