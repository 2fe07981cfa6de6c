-- `finishing::spot_row` meets its contract. Assumes nothing.
use Rattle.finishing.proofs.GetLaws.{row-spot}
use Rattle.finishing.proofs.spot_row.Goals as goal

pub returns : goal.returns
returns c = row-spot _ _ _ _ _ _ c.requires.0 _ _ _ c.room_of.ensures
    (rw (← c.all_blocks.ensures) c.spot_with.ensures) c.record_row-b.ensures
