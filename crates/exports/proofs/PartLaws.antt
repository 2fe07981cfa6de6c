-- The first and last bytes of a place are the value's. Assumes nothing.
use mathlib.Core.Path.{◌≡◌, refl, sym, ap}
use mathlib.Core.Bool.{Bool, true, false}
use mathlib.Core.List.{List, []}
use Prim.Native.Nat.{ℕ, ◌+◌, ◌-◌, ◌≤◌, ◌<◌}
use native.Mathlib.Omega.{arith}
use borrow.Author.Tests.{le-leb, lt-leb, leb-true}
use lib.Dec.{eqb, leb}
use lib.ListN.{length, take, drop}
use lib.Seq.{take-take, drop-drop}
use Rattle.basis.specs.Pick.{pick}
use Rattle.views.specs.ViewLaws.{drop-take}
use Rattle.column.specs.declared.Block.{Block}
use Rattle.column.specs.declared.Column.{Column}
use Rattle.column.specs.Lent.{Lent, buffers}
use Rattle.reading.specs.Reading.{prefix_bytes, suffix_bytes, prefix_at, suffix_at}
use Rattle.numbers.specs.Numbers.{place}
use Rattle.exports.specs.Exported.{place_at, named}
use Rattle.exports.proofs.PlaceLaws.{place-named, named-length}
use Rattle.exports.specs.Parts.{prefix_place, suffix_place}
use Rattle.numbers.specs.declared.Place.{Place}

module _ (n : ℕ) (p q : Place) (e : p ≡ q) where
  pub prefix-none : p.len < n → place p.refused p.buffer p.offset 0 ≡ prefix_place n q
  unfolding prefix_place
  prefix-none h = rw (← e, lt-leb n p.len h)

  pub prefix-some : n ≤ p.len → place p.refused p.buffer p.offset n ≡ prefix_place n q
  unfolding prefix_place
  prefix-some h = rw (← e, le-leb n p.len h)

  pub suffix-none : p.len < n → place p.refused p.buffer p.offset 0 ≡ suffix_place n q
  unfolding suffix_place
  suffix-none h = rw (← e, lt-leb n p.len h) (ap (λ (o : ℕ). place p.refused p.buffer o 0) none)
    where
      none : p.offset ≡ p.offset + 0
      none = omega arith

  pub suffix-some : n ≤ p.len → place p.refused p.buffer (p.offset + (p.len - n)) n ≡ suffix_place n q
  unfolding suffix_place
  suffix-some h = rw (← e, le-leb n p.len h)

-- the first n bytes of a part, and the last n
part-prefix : (n off len : ℕ) (b : List ℕ) → length (take len (drop off b)) ≡ len → take (pick (leb n len) n 0) (drop off b)
    ≡ prefix_bytes n (take len (drop off b))
unfolding prefix_bytes
part-prefix n off len b h = rw h (by (leb n len) refl)
  where
    by : (t : Bool) → leb n len ≡ t → take (pick t n 0) (drop off b) ≡ pick t (take n (take len (drop off b))) []
    by true e = sym (take-take n len (drop off b) (leb-true n len e))
    by false e = refl

part-suffix : (n off len : ℕ) (b : List ℕ) → length (take len (drop off b)) ≡ len
    → take (pick (leb n len) n 0) (drop (off + pick (leb n len) (len - n) 0) b) ≡ suffix_bytes n (take len (drop off b))
unfolding suffix_bytes
part-suffix n off len b h = rw h (by (leb n len) refl)
  where
    by : (t : Bool) → leb n len ≡ t → take (pick t n 0) (drop (off + pick t (len - n) 0) b) ≡ pick t (drop (len - n) (take len (drop off b))) []
    by true e =
        let m = leb-true n len e in
        let whole-len : len - n + n ≡ len = omega arith in
        sym (rw (drop-drop (len - n) off b) at (rw whole-len at (drop-take (len - n) n (drop off b))))
    by false e = refl

module _ (views bytes nulls : List ℕ) (table : List Block) (c : Column) (r : ℕ) where
  abbrev lent-whole : Lent
  lent-whole = buffers views bytes table nulls

  -- what the places of a prefix and of a suffix name (an end theorem: nothing cites it)
  pub prefix-named : (n : ℕ) → named lent-whole (prefix_place n (place_at lent-whole c r)) ≡ prefix_at lent-whole c r n
  unfolding named prefix_place prefix_at
  prefix-named n =
      let p = place_at lent-whole c r in
      rw (← place-named views bytes nulls table c r) (part-prefix n p.offset p.len (pick (eqb p.buffer 0) views bytes)
      (named-length views bytes nulls table c r))

  pub suffix-named : (n : ℕ) → named lent-whole (suffix_place n (place_at lent-whole c r)) ≡ suffix_at lent-whole c r n
  unfolding named suffix_place suffix_at
  suffix-named n =
      let p = place_at lent-whole c r in
      rw (← place-named views bytes nulls table c r) (part-suffix n p.offset p.len (pick (eqb p.buffer 0) views bytes)
      (named-length views bytes nulls table c r))
