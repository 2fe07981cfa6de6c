use Prim.Native.Nat.{◌+◌}
use Rattle.copy.specs.OverLaws.{tail-paste}
use Rattle.compaction.proofs.put_value.Goals as goal

pub returns : goal.returns
returns c =
    let s = c.args in
    record { views = c.long_view.ensures; bytes = tail-paste (s.s.base + s.s.fill) s.newbytes.now _ s.value.now c.copy.ensures }
