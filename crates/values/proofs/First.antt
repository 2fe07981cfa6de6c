-- What the first tests of a value call say of the call: the verdict of one that they refuse, and what holds past them. Assumes nothing.
use Rattle.std.specs.Prelude.{◌≡◌, false, true, not, List, ℕ, ◌+◌, ◌*◌, ◌≤◌, eqb, length}
use Rattle.std.proofs.Common.{sym, ap, ◌∙◌}
use Rattle.basis.specs.Pick.{pick}
use Rattle.bounds.specs.Bounds.{row_limit}
use Rattle.bounds.specs.Refusals.{refuse, is_accepted, accepted, Why}
use Rattle.bounds.specs.declared.Refusal.TheVariants.{Fit}
use Rattle.builder.specs.declared.State.{State}
use Rattle.builder.specs.State.{Builder, held, fits_rooms}
use Rattle.builder.specs.Rooms.{room_of_rows, room_of_blocks, room_of_bytes}
use Rattle.builder.specs.Values.{why_rows, why_store, why_values}
use Rattle.builder.specs.RoomLaws.{Judged, first-is, value-no, value_none, value_on, judged, room-many}

module _ (s : State) (vs bs ss ns ms ps x : List ℕ) (n : ℕ) where
  abbrev here : Builder
  here = held s vs bs ss ns ms ps

  -- a value that is added once or more
  pub record First : Type 0 where
    pub judged : Judged here x
    pub on : why_values n here x ≡ why_store here x
    pub rows : s.rows + n ≤ row_limit
    pub views : 16 * (s.rows + n) ≤ length vs
    pub bits : s.rows + n ≤ 8 * length ms

  module _ {room blocks bytes : ℕ} {w : Why}
      (e : w ≡ refuse Fit (not (fits_rooms s room blocks bytes)) (pick (eqb n 0) accepted (why_rows s.kind x s.rows n room accepted)))
      (er : room ≡ room_of_rows s.merging (length vs) (length ms) (length ps)) (eb : blocks ≡ room_of_blocks (length ss) (length ns))
      (ed : bytes ≡ room_of_bytes (length bs)) where
    pub first-no : is_accepted w ≡ false → w ≡ why_values n here x
    first-no h =
        let f = e ∙ first-is s vs bs ss ns ms ps room blocks bytes er eb ed x n in
        f ∙ value-no here x n (ap is_accepted (sym f) ∙ h)

    pub first_none : is_accepted w ≡ true → n ≡ 0 → why_values n here x ≡ accepted
    first_none h =
        let f = e ∙ first-is s vs bs ss ns ms ps room blocks bytes er eb ed x n in
        value_none here x n (ap is_accepted (sym f) ∙ h)

    pub first-some : is_accepted w ≡ true → (n ≡ 0 → ⊥) → First
    first-some h some =
        let f = e ∙ first-is s vs bs ss ns ms ps room blocks bytes er eb ed x n in
        let y = ap is_accepted (sym f) ∙ h in
        let j = judged here x n y some in
        let m = room-many s vs bs ss ns ms ps n j.1 in
        record { judged = j.0; on = value_on here x n y some; rows = m.0; views = m.1; bits = m.2 }
