use Prim.Native.Nat.{◌*◌}
use lib.ListN.{drop}
use lib.Seq.{take-take}
use Rattle.views.specs.View.{view_at}
use Rattle.words.specs.ListLaws.{put_two}
use native.Mathlib.Omega.{arith}
use Rattle.values.proofs.copy_view.Goals as goal

pub returns : goal.returns
unfolding view_at
returns c =
    let a = c.args in
    let two = put_two a.views.now a.views.now (16 * a.to) (16 * a.from) _ _
    (λ j. (c.slice_known-1.given j).fits)
    (omega arith) (omega arith) c.le64-lo.ensures
    c.le64-hi.ensures in
    rw (take-take 16 16 (drop (16 * a.from) a.views.now) (omega arith)) (cc two)
