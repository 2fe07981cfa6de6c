-- What a search of the merge table over a table of records is asked with. Assumes nothing.
use Rattle.std.specs.Prelude.{List, ℕ, ◌*◌, ◌≤◌, ◌<◌, length}
use Rattle.bounds.specs.Bounds.{block_limit}
use Rattle.column.specs.declared.Block.{Block}
use Rattle.builder.specs.declared.State.{State}
use Rattle.builder.specs.State.{all_blocks}

-- the state fits its views and blocks, and x is long
abbrev pub Fine : State → List ℕ → List Block → List ℕ → Type 0
Fine s vs t x = (16 * s.rows ≤ length vs) × (all_blocks s ≤ length t) × (all_blocks s ≤ block_limit) × (12 < length x)
