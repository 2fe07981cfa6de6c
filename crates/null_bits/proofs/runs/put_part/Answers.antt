use Rattle.null_bits.proofs.ByteLaws.{joined, joined-lt, part_in}
use Rattle.null_bits.specs.Runs.{put_bits}
use lib.ListN.{get_or}
use Prim.Native.Nat.{◌/◌, ◌%◌}
use native.Mathlib.Omega.{arith}
use Rattle.null_bits.proofs.runs.put_part.Goals as goal

pub returns-then-n-eq0 : goal.returns-then-n-eq0
unfolding put_bits
returns-then-n-eq0 c = rw c.if-n-eq0.true

pub overflow_cast-map : goal.overflow_cast-map
overflow_cast-map c =
    let a = c.args in
    rw (joined (get_or a.map.now (a.row / 8) 0) a.x (a.row % 8) a.n (omega arith) (omega arith) (omega arith))
    (record { fits = joined-lt (get_or a.map.now (a.row / 8) 0) a.x (a.row % 8) a.n (omega arith) })

pub returns : goal.returns
returns c =
    let a = c.args in
    rw (joined (get_or a.map.now (a.row / 8) 0) a.x (a.row % 8) a.n (omega arith) (omega arith) (omega arith))
    (part_in a.map.now a.row a.x a.n c.if-n-eq0.false (omega arith) (omega (arith, c.if-n-eq0.false)))
