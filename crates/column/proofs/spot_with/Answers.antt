-- `column::spot_with` meets its contract. Assumes nothing.
use native.Mathlib.Omega.{arith}
use Rattle.column.proofs.SpotLaws.{spot-short, spot-no-block, spot-over, spot_past, spot-data}
use Rattle.column.proofs.spot_with.Goals as goal
use Rattle.column.proofs.spot_with.Goals.{then-b-offset-via-then-b-offset, then-b-offset-via-else-b-offset+then-room-b, then-b-offset-via-else-b-offset+else-room-b+then-room-b-2}

pub returns-then-len-le-SHORT_MOST : goal.returns-then-len-le-SHORT_MOST
returns-then-len-le-SHORT_MOST c = spot-short _ _ _ _ _ _ c.view_len-len.ensures.0 c.if-len-le-SHORT_MOST.true

pub returns-then-blocks-view_block : goal.returns-then-blocks-view_block
returns-then-blocks-view_block c = spot-no-block _ _ _ _ _ _ c.view_len-len.ensures.0 c.if-len-le-SHORT_MOST.false _
    c.view_block.ensures.0 c.if-blocks-view_block.true

pub returns-then-b-offset : goal.returns-then-b-offset
returns-then-b-offset c =
    elim c.then-b-offset.branch [
      | then-b-offset-via-then-b-offset w ↦ spot-over _ _ _ _ _ _ c.view_len-len.ensures.0 c.if-len-le-SHORT_MOST.false _
          c.view_block.ensures.0 c.if-blocks-view_block.false _ c.view_offset-offset.ensures.0 w.if-b-offset.true
      | then-b-offset-via-else-b-offset+then-room-b w ↦ spot_past _ _ _ _ _ _ c.view_len-len.ensures.0 c.if-len-le-SHORT_MOST.false _
          c.view_block.ensures.0 c.if-blocks-view_block.false _ c.view_offset-offset.ensures.0 (omega arith)
      | then-b-offset-via-else-b-offset+else-room-b+then-room-b-2 w ↦ spot_past _ _ _ _ _ _ c.view_len-len.ensures.0 c.if-len-le-SHORT_MOST.false _
          c.view_block.ensures.0 c.if-blocks-view_block.false _ c.view_offset-offset.ensures.0 (omega arith)
    ]

pub returns : goal.returns
returns c = spot-data _ _ _ _ _ _ c.view_len-len.ensures.0
    c.if-len-le-SHORT_MOST.false _ c.view_block.ensures.0
    c.if-blocks-view_block.false _ c.view_offset-offset.ensures.0 (omega arith) (omega arith)
