-- `filing::get_value` meets its contract. Assumes nothing.
use Rattle.filing.specs.RowLaws.{got-none}
use mathlib.Core.Path.{refl}
use Rattle.filing.proofs.get_value.Goals as goal

pub returns-in-Err : goal.returns-in-Err
returns-in-Err c =
    let a = c.args in
    got-none a.s a.views.now a.bytes.now a.table.now a.nulls.now a.places.now a.r _ _ a.views.ref_ptr a.bytes.ref_ptr _ c.in-Err.ensures refl refl refl
