-- The five slices of an accepted call are, at exit, the buffers that `from_offsets` says. Assumes nothing.
use mathlib.Core.Path.{◌≡◌, refl}
use mathlib.Core.Bool.{true}
use mathlib.Core.List.{List, [], ◌∷◌}
use Prim.Native.Nat.{ℕ}
use lib.ListN.{length}
use Rattle.bounds.specs.Refusals.{is_accepted, accepted, Why}
use Rattle.column.specs.declared.Kind.{Kind}
use Rattle.column.specs.Lent.{Lent, lent, table_of}
use Rattle.laying.specs.Written.{front}
use Rattle.laying.specs.WrittenLaws.{table-front}
use Rattle.laying.specs.RoomLaws.{taken}
use Rattle.offsets.specs.declared.Outcome.{Outcome}
use Rattle.offsets.specs.Offsets.{Source, why_offsets, from_offsets, Converted}

pub converted-lent : (w : ℕ) (s : Source) (k : Kind) (vs bs ss ns ms : List ℕ) (r : Outcome) (vs' bs' ss' ns' ms' : List ℕ)
    → Converted w s k vs bs ss ns ms r vs' bs' ss' ns' ms' → is_accepted (why_offsets w s k (lent vs bs ss ns ms)) ≡ true
    → lent vs' bs' ss' ns' ms' ≡ from_offsets w s (lent vs bs ss ns ms)
unfolding from_offsets table_of
converted-lent w s k vs bs ss ns ms r vs' bs' ss' ns' ms' c a =
    let o : Lent = lent vs bs ss ns ms in
    let y : Why = why_offsets w s k o in
    let v : vs' ≡ (from_offsets w s o).views = taken y (from_offsets w s o).views vs vs' a c.views in
    let b : bs' ≡ (from_offsets w s o).bytes = taken y (from_offsets w s o).bytes bs bs' a c.bytes in
    let p : ss' ≡ front ss (0 ∷ []) = taken y (front ss (0 ∷ [])) ss ss' a c.starts in
    let n : ns' ≡ front ns (length s.bytes ∷ []) = taken y (front ns (length s.bytes ∷ [])) ns ns' a c.lens in
    let m : ms' ≡ (from_offsets w s o).nulls = taken y (from_offsets w s o).nulls ms ms' a c.nulls in
    rw (v, b, p, n, m, table-front ss ns (0 ∷ []) (length s.bytes ∷ []) refl)
