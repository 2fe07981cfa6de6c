-- `builder_exports::tambuyeel_get_value` meets its contract. Assumes nothing.
use Rattle.finishing.proofs.GetLaws.{got}
use Rattle.builder.specs.RoomLaws.{fits_gives, ready}
use Rattle.bounds.specs.Refusals.{is_accepted}
use mathlib.Core.Path.{sym, ap, ◌∙◌}
use Rattle.numbers.specs.Numbers.{place_of}
use Rattle.builder_exports.proofs.NumberLaws.{got-not, got-there}
use Rattle.builder_exports.proofs.tambuyeel_get_value.Goals as goal

pub returns-in-Err : goal.returns-in-Err
returns-in-Err c = rw c.state_of-s.ensures at (got-not _ _ _ _ _ _ _ _ _
    c.why_get.ensures _ c.in-Err.is _ c.number.ensures)

pub spot_row-requires : goal.spot_row-requires
spot_row-requires c = let a = c.args in
    let g = got c.state_of-s.result a.views.now a.bytes.now a.starts.now a.lens.now a.nulls.now
    a.places.now a.row (ap is_accepted (sym c.why_get.ensures ∙ c.in-Ok.is)) in
    (ready _ _ _ _ _ _ _ (fits_gives _ _ _ _ _ _ _ g.fit), g.row)

pub returns-in-Ok : goal.returns-in-Ok
returns-in-Ok c = rw c.state_of-s.ensures at (got-there _ _ _ _ _ _ _ _ _
    c.why_get.ensures c.in-Ok.is _
    (c.place_of.ensures ∙ ap place_of c.spot_row.ensures))
