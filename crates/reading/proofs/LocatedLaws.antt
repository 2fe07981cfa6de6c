-- A row's value as it was looked for: its verdict, its bytes, and that its part lies in its slice. Assumes nothing.
use Rattle.std.specs.Prelude.{◌≡◌, Bool, true, false, not, ℕ, ◌+◌, ◌<◌, Ok, Err, Result}
use Rattle.std.proofs.Math.Path.{refl, ap}
use Rattle.std.proofs.Common.{◌∙◌, add_comm}
use mathlib.Core.List.{List, []}
use Rattle.bounds.specs.Refusals.{refuse, is_accepted, if_accepted, accepted, Why, answered}
use Rattle.bounds.specs.declared.Refusal.{Refusal}
use Rattle.bounds.specs.declared.Refusal.TheVariants.{BadView}
use Rattle.views.specs.View.{view_at}
use Rattle.column.specs.declared.Block.{Block}
use Rattle.column.specs.declared.Column.{Column}
use Rattle.column.specs.declared.Spot.{Spot}
use Rattle.column.specs.Lent.{Lent, buffers, fits}
use Rattle.column.specs.Meaning.{shown_at}
use Rattle.column.specs.Spot.{spot_in, bytes_at, points_to, Lies}
use Rattle.column.specs.Truth.{reach_by, is_inside, reachable, reachable_at}
use Rattle.column.proofs.FitLaws.{fits-view}
use Rattle.column.proofs.SpotLaws.{spot-reach, found-lies, found-reach, spot-shown}
use Rattle.reading.specs.Reading.{why_reach, why_value, value_at, why_of, located_bytes, points_of, LiesAt, points_at}
use Rattle.reading.specs.Reading as spec
use Rattle.reading.proofs.ReadingLaws.{value-reach, value-readable}

-- ---- what is found, by the tests

module _ (l : Lent) (c : Column) (r : ℕ) where
  abbrev spot : Spot
  spot = spot_in l c.blocks (view_at l.views (c.first + r)) (c.first + r)

  pub located-no : (x : Refusal) → Err x ≡ why_value l c r → Err x ≡ spec.located_at l c r
  unfolding spec.located_at
  located-no x e = rw (← e)

  reach-why : why_reach r spot ≡ refuse (BadView r) (not (reachable_at l c r)) accepted
  unfolding why_reach reachable
  reach-why = ap (λ (b : Bool). refuse (BadView r) (not b) accepted) (ap is_inside (spot-reach l c.blocks (view_at l.views (c.first + r)) (c.first + r)))

  pub located-is : fits l c ≡ true → r < c.rows → (s : Spot) (x : Result Spot Refusal) → s ≡ spot → x ≡ answered (why_reach r s) s → x ≡ spec.located_at l c r
  unfolding spec.located_at
  located-is f h s x e p = p ∙ ap (λ (z : Spot). answered (why_reach r z) z) e ∙ ap (λ (w : Why). answered w spot) (reach-why ∙ value-reach l c r f h)

  pub located-why : (x : Result Spot Refusal) → x ≡ spec.located_at l c r → why_of x ≡ why_value l c r
  unfolding spec.located_at
  located-why x e = ap why_of e ∙ by (why_value l c r)
    where
      by : (w : Why) → why_of (answered w spot) ≡ w
      by (Ok _) = refl
      by (Err z) = refl

  pub located-points : (x : Result Spot Refusal) (v d y : ℕ × ℕ) → x ≡ spec.located_at l c r → y ≡ points_of v d x → y ≡ points_at l c r v d
  unfolding points_at
  located-points x v d y e p = p ∙ ap (points_of v d) e

-- ---- over any table, its bytes and its place

module _ (views bytes nulls : List ℕ) (table : List Block) (c : Column) (r : ℕ) (x : Result Spot Refusal) (e : x
    ≡ spec.located_at (buffers views bytes table nulls) c r) where
  abbrev l : Lent
  l = buffers views bytes table nulls

  abbrev there : Spot
  there = spot_in l c.blocks (view_at views (c.first + r)) (c.first + r)

  pub located-lies : LiesAt views bytes x
  unfolding spec.located_at LiesAt
  located-lies = rw e (by (why_value l c r) refl)
    where
      by : (w : Why) → why_value l c r ≡ w → LiesAt views bytes (answered w there)
      by (Ok _) p =
          let g = value-readable l c r (ap is_accepted p) in
          found-lies views bytes nulls table c.blocks (c.first + r) there refl (fits-view views bytes nulls table c r g.fit g.row)
      by (Err z) p = tt

  pub located-bytes : located_bytes views bytes x ≡ value_at l c r
  unfolding spec.located_at located_bytes value_at shown_at
  located-bytes = ap (located_bytes views bytes) e ∙ by (why_value l c r) refl
    where
      by : (w : Why) → why_value l c r ≡ w → located_bytes views bytes (answered w there) ≡ if_accepted w (shown_at l c r) []
      by (Ok _) p =
          let g = value-readable l c r (ap is_accepted p) in
          spot-shown views bytes nulls table c.blocks (c.first + r) there refl (found-reach views bytes nulls table c.blocks (c.first + r)
          there refl ∙ g.reach)
      by (Err z) p = refl

-- ---- a located value in hand

module _ (views bytes : List ℕ) (v d y : ℕ × ℕ) (x : Result Spot Refusal) where
  pub at_lies : (s : Spot) → x ≡ Ok s → LiesAt views bytes x → Lies views bytes s
  unfolding LiesAt
  at_lies s e h = rw e at h

  pub at-bytes : (s : Spot) → x ≡ Ok s → bytes_at views bytes s ≡ located_bytes views bytes x
  unfolding located_bytes
  at-bytes s e = rw e

  pub at-points : (s : Spot) → x ≡ Ok s → points_to v d s ≡ points_of v d x
  unfolding points_of
  at-points s e = rw e

  pub no_bytes : (r : Refusal) → x ≡ Err r → [] ≡ located_bytes views bytes x
  unfolding located_bytes
  no_bytes r e = rw e

  pub no-points : (r : Refusal) → x ≡ Err r → y ≡ (v.0, 0 + v.1) → y ≡ points_of v d x
  unfolding points_of
  no-points r e p = rw (e, p) (ap (λ (k : ℕ). (v.0, k)) (add_comm 0 v.1))

-- ---- a spot is kept where it is reached

pub judged-lies : (views bytes : List ℕ) (x : Result Spot Refusal) (r : ℕ) (s : Spot) → x ≡ answered (why_reach r s) s → Lies views bytes s
    → LiesAt views bytes x
unfolding LiesAt
judged-lies views bytes x r s e h = rw e (by (why_reach r s))
  where
    by : (w : Why) → LiesAt views bytes (answered w s)
    by (Ok _) = h
    by (Err z) = tt

pub judged-yes : (r : ℕ) (s : Spot) → is_inside (reach_by s) ≡ true → Ok s ≡ answered (why_reach r s) s
unfolding why_reach refuse
judged-yes r s h = rw h

pub judged-no : (r : ℕ) (s : Spot) → is_inside (reach_by s) ≡ false → Err (BadView r) ≡ answered (why_reach r s) s
unfolding why_reach refuse
judged-no r s h = rw h
