-- `column::spot_at` meets its contract. Assumes nothing.
use Rattle.column.proofs.SpotLaws.{spot_is}
use Rattle.column.proofs.spot_at.Goals as goal

pub returns : goal.returns
returns c = spot_is _ _ _ _ _ _ _ c.room_of.ensures c.spot_with.ensures _ _ c.record_at-b.ensures
