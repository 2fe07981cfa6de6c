-- `views::long_view` meets its contract. Assumes nothing.
use Rattle.views.proofs.Laws.{long-words}
use Prim.Native.Nat.{◌+◌, ◌*◌}
use lib.ListN.{length}
use mathlib.Core.Path.{refl}
use native.Mathlib.Omega.{arith}
use Rattle.views.proofs.long_view.Goals as goal

pub returns : goal.returns
returns c =
    let s = c.args in
    let v = s.v.now in
    cc (long-words s.b.now v s.o (length v + 4294967296 * c.le32-f.result)
    (s.block + 4294967296 * s.offset) s.block s.offset
    (λ j. (c.type_inv.v j).fits) (omega arith) (omega arith)
    (omega arith) (omega arith) refl)
