-- `filing::spot_row` meets its contract. Assumes nothing.
use Rattle.bounds.specs.Bounds.{block-limit-small}
use Rattle.column.proofs.SpotLaws.{spot-lies}
use Rattle.column.specs.Lent.{block}
use Rattle.filing.specs.RowLaws.{row-stands}
use Rattle.views.specs.View.{view_at, block_of}
use lib.ListN.{get_or}
use mathlib.Core.Path.{◌≡◌}
use native.Mathlib.Omega.{arith}
use Rattle.filing.proofs.spot_row.Goals as goal

pub all_blocks-requires : goal.all_blocks-requires
all_blocks-requires c = omega (arith, c.requires.2, block-limit-small)

pub returns : goal.returns
returns c =
    let a = c.args in
    let b : c.block_or-b.result ≡ get_or a.table.now (block_of (view_at a.views.now a.r)) (block 0 0) = rw (← c.view_block-k.ensures.0) c.block_or-b.ensures in (
      spot-lies a.views.now a.bytes.now _ _ _ a.r _ c.room_of.ensures c.spot_with.ensures
          (omega (arith, c.requires.0, c.requires.1)),
      rw (← b) (row-stands a.s a.views.now a.bytes.now a.r _ _ _ _ _ c.view_block-k.ensures.0
          c.room_of.ensures c.record_or.ensures.0 c.record_or.ensures.1
          (rw (← c.all_blocks.ensures) c.spot_with.ensures)),
    )
