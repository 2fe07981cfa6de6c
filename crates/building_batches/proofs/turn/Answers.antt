use Rattle.builder.specs.DoesLaws.{does-same}
use Rattle.builder.proofs.KeptLaws.{kept-fits, kept-merging}
use lib.ListN.{take, drop}
use Prim.Native.Nat.{◌-◌}
use Rattle.building_batches.proofs.turn.Goals as goal

pub returns : goal.returns
returns c =
    let a = c.args in
    let x = take (a.e - a.a) (drop a.a a.all.now) in
    let d = does-same _ _ _ a.s a.views.now a.bytes.now a.starts.now a.lens.now a.nulls.now a.places.now
    c.anew-t.ensures c.add_part.ensures in
    let k = c.add_part.auto in (
      kept-fits a.s a.views.now a.bytes.now a.starts.now a.lens.now a.nulls.now a.places.now x d c.requires.0 c.requires.1
          k.views k.bytes k.starts k.lens
          k.nulls k.places,
      kept-merging a.s a.views.now a.bytes.now a.starts.now a.lens.now a.nulls.now a.places.now x d c.requires.0 c.requires.1,
    )
