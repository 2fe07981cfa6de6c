-- A row's test over a table of records, from the test over the table's two slices. Assumes nothing.
use mathlib.Core.Path.{◌≡◌, refl, sym, ◌∙◌}
use mathlib.Core.Bool.{Bool}
use mathlib.Core.List.{List, []}
use Prim.Native.Nat.{ℕ, ◌+◌, ◌*◌, ◌≤◌, ◌<◌}
use native.Mathlib.Omega.{arith}
use lib.ListN.{length, get_or}
use Rattle.views.specs.View.{view_at, block_of}
use Rattle.column.specs.declared.Block.{Block}
use Rattle.column.specs.Lent.{buffers, block, table_of}
use Rattle.column.specs.Room.{bare}
use Rattle.builder.specs.declared.State.{State}
use Rattle.builder.specs.Rooms.{Ready, shows_row}
use Rattle.filing_values.specs.Search.{Fine}
use Rattle.filing.specs.Rows.{RowNames}
use Rattle.filing.specs.FilesLaws.{over-tables, table-length}
use Rattle.filing.specs.RowLaws.{sees-names}

pub shows-table : (s : State) (vs bs : List ℕ) (t : List Block) (x : List ℕ) (r : ℕ) (y : Bool) → Fine s vs t x
    → ((ss ns : List ℕ) → Ready s vs ss ns
    → (r < s.rows → RowNames vs r (get_or t (block_of (view_at vs r)) (block 0 0)) ss ns) → y ≡ shows_row s (bare vs bs ss ns) x r)
    → y ≡ shows_row s (buffers vs bs t []) x r
shows-table s vs bs t x r y =
    over-tables (λ t. Fine s vs t x → ((ss ns : List ℕ) → Ready s vs ss ns
    → (r < s.rows → RowNames vs r (get_or t (block_of (view_at vs r)) (block 0 0)) ss ns) → y ≡ shows_row s (bare vs bs ss ns) x r)
    → y ≡ shows_row s (buffers vs bs t []) x r) (length t) (λ ss ns es en f g.
    let size = table-length (length t) ss ns es en in
    let rd : Ready s vs ss ns = record { rows = f.0; starts = omega (arith, f.1, size, es); lens = omega (arith, f.1, size, en) } in
    g ss ns rd (λ low.
    let i : 16 * r + 16 ≤ length vs = omega (arith, f.0, low) in
    sees-names vs r (get_or (table_of ss ns) (block_of (view_at vs r)) (block 0 0)) ss ns (sym es ∙ en) i (λ h. refl))) t refl
