-- The place of a row's value names the value's bytes, as many as it says, and lies in its buffer. Assumes nothing.
use Rattle.bounds.specs.declared.Refusal.{Refusal}
use Rattle.std.specs.Prelude.{Ok, Err, Result}
use mathlib.Core.Path.{◌≡◌, refl, ap, ◌∙◌}
use mathlib.Core.List.{List}
use Prim.Native.Nat.{ℕ, ◌+◌, ◌≤◌, ◌<◌}
use native.Mathlib.Omega.{arith}
use lib.ListN.{length, drop, length-drop}
use lib.Seq.{length-take-le}
use Rattle.bounds.specs.Bounds.{row-limit-is, byte_limit, byte-limit-is, row_limit}
use Rattle.bounds.specs.Refusals.{is_accepted, Why, answered}
use Rattle.views.specs.View.{block_of, view_at}
use Rattle.column.specs.declared.Block.{Block}
use Rattle.column.specs.declared.Column.{Column}
use Rattle.column.specs.declared.Spot.{Spot}
use Rattle.column.specs.declared.Spot.TheVariants as spot
use Rattle.column.specs.Lent.{Lent, buffers, block_at, data_room}
use Rattle.column.specs.Spot.{spot_in, bytes_at, Lies}
use Rattle.column.proofs.FitLaws.{fits-limit}
use Rattle.column.proofs.SpotLaws.{Stood, in-views, in-data, no_block, outside, stood}
use Rattle.reading.specs.Reading.{why_value, located_at, value_at, located_bytes, LiesAt}
use Rattle.reading.proofs.ReadingLaws.{value-readable}
use Rattle.reading.proofs.LocatedLaws.{located-lies, located-bytes}
use Rattle.numbers.specs.declared.Place.{Place}
use Rattle.numbers.specs.Numbers.{place_of}
use Rattle.exports.specs.Exported.{place_told, place_at, named}

module _ (views bytes nulls : List ℕ) (table : List Block) where
  abbrev l : Lent
  l = buffers views bytes table nulls

  place-bytes : (x : Result Spot Refusal) → named l (place_told x) ≡ located_bytes views bytes x
  unfolding named located_bytes bytes_at
  place-bytes (Ok (spot.View o n)) = refl
  place-bytes (Ok (spot.Data o n)) = refl
  place-bytes (Ok spot.NoBlock) = refl
  place-bytes (Ok spot.Outside) = refl
  place-bytes (Err r) = refl

  place-length : (x : Result Spot Refusal) → LiesAt views bytes x → length (named l (place_told x)) ≡ (place_told x).len
  unfolding named LiesAt Lies
  place-length (Ok (spot.View o n)) h = length-take-le n (drop o views) (simp length-drop (omega arith))
  place-length (Ok (spot.Data o n)) h = length-take-le n (drop o bytes) (simp length-drop (omega arith))
  place-length (Ok spot.NoBlock) h = refl
  place-length (Ok spot.Outside) h = refl
  place-length (Err r) h = refl

  module _ (c : Column) (r : ℕ) where
    -- the place names the value's bytes, as many as it says
    pub place-named : named l (place_at l c r) ≡ value_at l c r
    unfolding place_at
    place-named = place-bytes (located_at l c r) ∙ located-bytes views bytes nulls table c r (located_at l c r) refl

    pub named-length : length (named l (place_at l c r)) ≡ (place_at l c r).len
    unfolding place_at
    named-length = place-length (located_at l c r) (located-lies views bytes nulls table c r (located_at l c r) refl)

    -- no part of a place is past the byte limit
    pub place-ends : (p : Place) → p ≡ place_at l c r → p.offset + p.len ≤ byte_limit
    unfolding place_at located_at data_room
    place-ends p e = rw e (by (why_value l c r) refl)
      where
        view : List ℕ
        view = view_at views (c.first + r)

        at-spot : c.first + r < row_limit → (s : Spot) → Stood (data_room l) c.blocks (block_at l (block_of view)) view (c.first + r) s
            → (place_of s).offset + (place_of s).len ≤ byte_limit
        at-spot h (spot.View o n) (in-views f) = omega (arith, row-limit-is, byte-limit-is)
        at-spot h (spot.Data o n) (in-data a b d g) = omega arith
        at-spot h spot.NoBlock (no_block a b) = omega arith
        at-spot h spot.Outside (outside a b) = omega arith

        by : (w : Why) → why_value l c r ≡ w
            → (place_told (answered w (spot_in l c.blocks view (c.first + r)))).offset + (place_told
            (answered w (spot_in l c.blocks view (c.first + r)))).len ≤ byte_limit
        by (Ok _) q =
            let g = value-readable l c r (ap is_accepted q) in
            at-spot (fits-limit views bytes nulls table c r g.fit g.row) (spot_in l c.blocks view (c.first + r))
            (stood (data_room l) c.blocks (block_at l (block_of view)) view (c.first + r))
        by (Err z) q = omega arith
