use Prim.Native.Nat.{◌%◌}
use native.Mathlib.Nat.{zero-mul, add-zero}
use lib.ListN.{get_or}
use Rattle.null_bits.specs.Bits.{put_bit}
use Rattle.null_bits.proofs.Laws.{put-null, put-valid, put-fits}
use Prim.Native.Nat.{◌/◌}
use native.Mathlib.Omega.{arith}
use Rattle.null_bits.proofs.put_bit.Goals as goal

pub overflow_cast-map : goal.overflow_cast-map
overflow_cast-map c =
    let a = c.args in
    rw (put-valid (get_or a.map.now (a.row / 8) 0) (a.row % 8) (omega arith))
    (record { fits = put-fits (get_or a.map.now (a.row / 8) 0) (a.row % 8) 1 (omega arith) (omega arith) })

pub returns-then-valid : goal.returns-then-valid
unfolding put_bit
returns-then-valid c =
    let a = c.args in
    rw (c.if-valid.true, put-valid (get_or a.map.now (a.row / 8) 0) (a.row % 8) (omega arith))

pub returns-else-valid : goal.returns-else-valid
unfolding put_bit
returns-else-valid c =
    let a = c.args in
    rw (c.if-valid.false, put-null (get_or a.map.now (a.row / 8) 0) (a.row % 8) (omega arith)) (simp (zero-mul, add-zero))
