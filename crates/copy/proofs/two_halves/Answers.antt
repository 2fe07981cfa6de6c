use Rattle.copy.proofs.Laws.{overlap}
use Prim.Native.Nat.{◌-◌}
use lib.ListN.{length}
use mathlib.Core.Path.{◌≡◌}
use native.Mathlib.Omega.{arith}
use Rattle.copy.proofs.two_halves.Goals as goal

pub returns : goal.returns
returns c =
    let s = c.args in
    let m = c.half-m.result in
    let z : m - 0 ≡ m = omega arith in
    overlap s.dst.now s.src.now _ _ m (length s.src.now - m) (omega arith) (omega arith)
    (rw z at c.four_words.ensures) c.four_words-2.ensures
