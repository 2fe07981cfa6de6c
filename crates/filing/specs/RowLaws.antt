-- The question and the value of a row over a table of records, by the record of the block that the row's view names. Assumes nothing.
use Rattle.std.specs.Prelude.{◌≡◌, refl, true, false, ℕ, zero, suc, ◌+◌, ◌*◌, ◌≤◌, ◌<◌, length, get_or, Err}
use Rattle.std.proofs.Common.{sym, ◌∙◌, add_comm, arith}
use Rattle.std.proofs.Math.Path.{ap}
use mathlib.Core.List.{List, [], ◌∷◌}
use Rattle.basis.specs.Pick.{if_lt}
use Rattle.bounds.specs.Refusals.{is_accepted, accepted-no, accepted, Why}
use Rattle.bounds.specs.declared.Refusal.TheVariants.{Fit, Row, BadView}
use Rattle.views.specs.View.{view_at, block_of}
use Rattle.column.specs.declared.Block.{Block}
use Rattle.column.specs.Lent.{block, buffers, data_room, table_of}
use Rattle.column.specs.declared.Spot.{Spot}
use Rattle.column.specs.Spot.{spot_of, bytes_at, points_to, further}
use Rattle.column.specs.Room.{bare}
use Rattle.column.specs.Truth.{reach_by, is_inside, reachable}
use Rattle.builder.specs.declared.State.{State}
use Rattle.builder.specs.State.{held, all_blocks, fits_state, recorded}
use Rattle.builder.specs.Rooms.{Ready}
use Rattle.builder.specs.RoomLaws.{fits_gives, ready}
use Rattle.builder.specs.Get.{why_get, get_value}
use Rattle.finishing.specs.Places.{spot_row, get_points}
use Rattle.finishing.proofs.GetLaws.{get_fit, get-late, get-bad, get-fine, value-yes, points-yes, row-record, row-spot, row-reach, row-shown}
use Rattle.filing.specs.Files.{filed}
use Rattle.filing.specs.FilesLaws.{over-tables, fits_by, fits-by, fitted}
use Rattle.filing.specs.Rows.{RowNames, RowSees}

-- the numbers of the record that the code takes
pub or-start : (s : State) (k : ℕ) (b : Block) (ss ns : List ℕ) (a : ℕ) → a ≡ if_lt k s.blocks b.start s.base → b ≡ block (get_or ss k 0) (get_or ns k 0)
    → a ≡ if_lt k s.blocks (get_or ss k 0) s.base
or-start s k b ss ns a e h = e ∙ ap (λ (z : Block). if_lt k s.blocks z.start s.base) h

pub or-size : (s : State) (k : ℕ) (b : Block) (ss ns : List ℕ) (a : ℕ) → a ≡ if_lt k s.blocks b.len s.fill → b ≡ block (get_or ss k 0) (get_or ns k 0)
    → a ≡ if_lt k s.blocks (get_or ns k 0) s.fill
or-size s k b ss ns a e h = e ∙ ap (λ (z : Block). if_lt k s.blocks z.len s.fill) h

-- a record of a table of two slices of one length
pub table-get : (ss ns : List ℕ) (k : ℕ) → length ss ≡ length ns → get_or (table_of ss ns) k (block 0 0) ≡ block (get_or ss k 0) (get_or ns k 0)
unfolding table_of
table-get [] [] k e = refl
table-get [] (n ∷ ns) k e = absurd (omega (arith, e))
table-get (s ∷ ss) [] k e = absurd (omega (arith, e))
table-get (s ∷ ss) (n ∷ ns) zero e = refl
table-get (s ∷ ss) (n ∷ ns) (suc k) e = table-get ss ns k (omega (arith, e))

pub sees-names : (vs : List ℕ) (r : ℕ) (b : Block) (ss ns : List ℕ) → length ss ≡ length ns → 16 * r + 16 ≤ length vs → RowSees vs r b (table_of ss ns)
    → RowNames vs r b ss ns
sees-names vs r b ss ns e h g k ek = g h ∙ ap (λ (j : ℕ). get_or (table_of ss ns) j (block 0 0)) (sym ek) ∙ table-get ss ns k e

-- where the value stands by the record of the table, or by the numbers of the open block
module _ (s : State) (vs bs : List ℕ) (r room k : ℕ) (b d : Block) (x : Spot) (ek : k ≡ block_of (view_at vs r)) (er : room ≡ data_room (buffers [] bs [] []))
    (es : d.start ≡ if_lt k s.blocks b.start s.base) (el : d.len ≡ if_lt k s.blocks b.len s.fill)
    (ex : x ≡ spot_of room (all_blocks s) d (view_at vs r) r) where
  pub row-stands : (ss ns : List ℕ) → Ready s vs ss ns → RowNames vs r b ss ns → x ≡ spot_row s (bare vs bs ss ns) r
  row-stands ss ns rd nm =
      row-spot s vs bs ss ns r rd room d x er ex (λ l h. row-record s vs bs ss ns r rd k d.start d.len ek (rw ek h)
      (or-start s k b ss ns d.start es (nm k ek)) (or-size s k b ss ns d.len el (nm k ek)))

module _ (s : State) (vs bs ms ps : List ℕ) (n r : ℕ) (b : Block) where
  pub why-fit : fits_by s vs bs ms ps n ≡ false → (t : List Block) → n ≡ length t → RowSees vs r b t → Err Fit ≡ why_get (filed s vs bs t ms ps) r
  why-fit h t e g = over-tables (λ t. Err Fit ≡ why_get (filed s vs bs t ms ps) r) n (λ ss ns es en. get_fit s vs bs ss ns ms ps r
      (sym (fits-by s vs bs ms ps n ss ns es en) ∙ h)) t e

  module _ (fit : fits_by s vs bs ms ps n ≡ true) where
    pub why-late : s.rows ≤ r → (t : List Block) → n ≡ length t → RowSees vs r b t → Err Row ≡ why_get (filed s vs bs t ms ps) r
    why-late h t e g = over-tables (λ t. Err Row ≡ why_get (filed s vs bs t ms ps) r) n (λ ss ns es en. get-late s vs bs ss ns ms ps r
        (sym (fits-by s vs bs ms ps n ss ns es en) ∙ fit) h) t e

    module _ (there : r < s.rows) (x : Spot) (ex : (ss ns : List ℕ) → Ready s vs ss ns → RowNames vs r b ss ns → x ≡ spot_row s (bare vs bs ss ns) r) where
      inside : 16 * r + 16 ≤ length vs
      inside = let f = fitted s vs bs ms ps n fit in omega (arith, there, f.views)

      -- over two slices of the table's length
      at-hand : (ss ns : List ℕ) → n ≡ length ss → n ≡ length ns → RowSees vs r b (table_of ss ns)
          → (fits_state (held s vs bs ss ns ms ps) ≡ true) × Ready s vs ss ns × RowNames vs r b ss ns
      at-hand ss ns es en g =
          let f = sym (fits-by s vs bs ms ps n ss ns es en) ∙ fit in
          (f, ready s vs bs ss ns ms ps (fits_gives s vs bs ss ns ms ps f), sees-names vs r b ss ns (sym es ∙ en) inside g)

      reaches : (ss ns : List ℕ) → Ready s vs ss ns → RowNames vs r b ss ns
          → is_inside (reach_by x) ≡ reachable (recorded s (bare vs bs ss ns)) (all_blocks s) (view_at vs r)
      reaches ss ns rd nm = row-reach s vs bs ss ns r x (ex ss ns rd nm)

      pub why-bad : is_inside (reach_by x) ≡ false → (t : List Block) → n ≡ length t → RowSees vs r b t → Err (BadView r) ≡ why_get (filed s vs bs t ms ps) r
      why-bad h t e g =
          over-tables (λ t. RowSees vs r b t → Err (BadView r) ≡ why_get (filed s vs bs t ms ps) r) n (λ ss ns es en g.
          let a = at-hand ss ns es en g in get-bad s vs bs ss ns ms ps r a.0 there (sym (reaches ss ns a.1 a.2) ∙ h)) t e g

      pub why-fine : is_inside (reach_by x) ≡ true → (t : List Block) → n ≡ length t → RowSees vs r b t → accepted ≡ why_get (filed s vs bs t ms ps) r
      why-fine h t e g =
          over-tables (λ t. RowSees vs r b t → accepted ≡ why_get (filed s vs bs t ms ps) r) n (λ ss ns es en g.
          let a = at-hand ss ns es en g in get-fine s vs bs ss ns ms ps r a.0 there (sym (reaches ss ns a.1 a.2) ∙ h)) t e g

      pub got-part : is_inside (reach_by x) ≡ true → (y : List ℕ) (v d q : ℕ × ℕ) → y ≡ bytes_at vs bs x → q ≡ points_to v d x
          → (t : List Block) → n ≡ length t → RowSees vs r b t
          → (y ≡ get_value (filed s vs bs t ms ps) r) × (q ≡ get_points (filed s vs bs t ms ps) r v d)
      got-part h y v d q ey eq t e g =
          over-tables (λ t. RowSees vs r b t → (y ≡ get_value (filed s vs bs t ms ps) r) × (q ≡ get_points (filed s vs bs t ms ps) r v d)) n (λ ss ns es en g.
          let a = at-hand ss ns es en g in
          let z = sym (reaches ss ns a.1 a.2) ∙ h in
          let w = get-fine s vs bs ss ns ms ps r a.0 there z in
          let p = ex ss ns a.1 a.2 in (
            value-yes s vs bs ss ns ms ps r accepted y w refl (ey ∙ row-shown s vs bs ss ns r x p z),
            points-yes s vs bs ss ns ms ps r accepted v d q w refl (eq ∙ ap (points_to v d) p),
          )) t e g

-- refused, the part is empty
module _ (s : State) (vs bs : List ℕ) (t : List Block) (ms ps : List ℕ) (r : ℕ) where
  pub got-none : (w : Why) (x : List ℕ) (v d q : ℕ × ℕ) → w ≡ why_get (filed s vs bs t ms ps) r → is_accepted w ≡ false → x ≡ [] → q ≡ (v.0, 0 + v.1)
      → (x ≡ get_value (filed s vs bs t ms ps) r) × (q ≡ get_points (filed s vs bs t ms ps) r v d)
  unfolding get_value get_points
  got-none w x v d q e h p k = (
    accepted-no (why_get (filed s vs bs t ms ps) r) w _ [] x e h p,
    accepted-no (why_get (filed s vs bs t ms ps) r) w _ (further v 0) q e h (k ∙ ap (λ (j : ℕ). (v.0, j)) (add_comm 0 v.1)),
  )
