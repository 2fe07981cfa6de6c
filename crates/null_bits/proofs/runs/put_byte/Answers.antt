use Rattle.null_bits.proofs.ByteLaws.{joined, joined-lt}
use lib.ListN.{get_or}
use Prim.Native.Nat.{◌/◌, ◌%◌, ◌-◌}
use Rattle.null_bits.proofs.ByteLaws.{byte-whole, byte_split}
use native.Mathlib.Omega.{arith}
use Rattle.null_bits.proofs.runs.put_byte.Goals as goal

pub returns-then-pos-eq0 : goal.returns-then-pos-eq0
returns-then-pos-eq0 c =
    let a = c.args in
    byte-whole a.map.now a.row a.x (omega arith) c.if-pos-eq0.true (omega arith)

pub overflow_cast-map-2 : goal.overflow_cast-map-2
overflow_cast-map-2 c =
    let a = c.args in
    rw (joined (get_or a.map.now (a.row / 8) 0) a.x (a.row % 8) (8 - a.row % 8) (omega arith) (omega arith) (omega arith))
    (record { fits = joined-lt (get_or a.map.now (a.row / 8) 0) a.x (a.row % 8) (8 - a.row % 8) (omega arith) })

pub returns : goal.returns
returns c =
    let a = c.args in
    rw (joined (get_or a.map.now (a.row / 8) 0) a.x (a.row % 8) (8 - a.row % 8) (omega arith) (omega arith) (omega arith))
    (byte_split a.map.now a.row a.x (8 - a.row % 8) (omega arith) (omega arith) (omega arith) (omega arith))
