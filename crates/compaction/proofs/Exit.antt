-- The five slices of an accepted call are, at exit, the buffers that `compacted` says. Assumes nothing.
use mathlib.Core.Path.{◌≡◌}
use mathlib.Core.Bool.{true}
use mathlib.Core.List.{List}
use Prim.Native.Nat.{ℕ}
use Rattle.bounds.specs.Refusals.{is_accepted, Why}
use Rattle.column.specs.declared.Column.{Column}
use Rattle.column.specs.Lent.{Lent, lent}
use Rattle.compaction.specs.declared.Outcome.{Outcome}
use Rattle.compaction.specs.Compact.{new_lens, why_compact, compacted, Wrote}
use Rattle.laying.specs.RoomLaws.{taken}
use Rattle.laying.specs.Written.{front, starts_from}
use Rattle.laying.specs.WrittenLaws.{length-starts, table-front}

pub wrote-lent : (most : ℕ) (l : Lent) (c : Column) (vs bs ss ns ms : List ℕ) (r : Outcome) (vs' bs' ss' ns' ms' : List ℕ)
    → Wrote most l c vs bs ss ns ms r vs' bs' ss' ns' ms' → is_accepted (why_compact most l c (lent vs bs ss ns ms)) ≡ true
    → lent vs' bs' ss' ns' ms' ≡ compacted most l c (lent vs bs ss ns ms)
unfolding compacted
wrote-lent most l c vs bs ss ns ms r vs' bs' ss' ns' ms' w a =
    let o : Lent = lent vs bs ss ns ms in
    let y : Why = why_compact most l c o in
    let v : vs' ≡ (compacted most l c o).views = taken y (compacted most l c o).views vs vs' a w.views in
    let b : bs' ≡ (compacted most l c o).bytes = taken y (compacted most l c o).bytes bs bs' a w.bytes in
    let s : ss' ≡ front ss (starts_from 0 (new_lens most l c)) = taken y (front ss (starts_from 0 (new_lens most l c))) ss ss' a w.starts in
    let n : ns' ≡ front ns (new_lens most l c) = taken y (front ns (new_lens most l c)) ns ns' a w.lens in
    let m : ms' ≡ (compacted most l c o).nulls = taken y (compacted most l c o).nulls ms ms' a w.nulls in
    rw (v, b, s, n, m, table-front ss ns (starts_from 0 (new_lens most l c)) (new_lens most l c) (length-starts 0 (new_lens most l c)))
