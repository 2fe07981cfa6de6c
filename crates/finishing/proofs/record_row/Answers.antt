-- `finishing::record_row` meets its contract. Assumes nothing.
use mathlib.Core.List.{[]}
use Rattle.builder.specs.RoomLaws.{all-bounds}
use Rattle.finishing.proofs.GetLaws.{row-record}
use native.Mathlib.Omega.{arith}
use Rattle.finishing.proofs.record_row.Goals as goal

pub at_or-requires : goal.at_or-requires
at_or-requires c = omega (arith, all-bounds c.args.s)

pub at_or-requires-2 : goal.at_or-requires-2
at_or-requires-2 c = omega (arith, all-bounds c.args.s)

pub returns : goal.returns
returns c = λ l h. row-record _ _ [] _ _ _ c.requires.0 _ _ _
    c.view_block-k.ensures.0 (omega arith) c.at_or.ensures c.at_or-2.ensures
