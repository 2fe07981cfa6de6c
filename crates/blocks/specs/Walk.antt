-- What a row walk holds, as the buffers of its column, and its place after a row. Assumes nothing.
use Rattle.std.specs.Prelude.{ℕ, ◌+◌}
use Rattle.bounds.specs.Refusals.{if_accepted, Why}
use Rattle.column.specs.Lent.{Lent, buffers}
use Rattle.blocks.specs.declared.Walk.{Walk}

abbrev pub held_by : Walk → Lent
held_by w = buffers w.views.now w.bytes.now w.table.now w.nulls.now

-- the place after a row by its verdict: the next one where its value is accepted
unfoldable pub place_after : Why → ℕ → ℕ
place_after w r = if_accepted w (r + 1) r
