use Prim.Native.Nat.{◌/◌, ◌^◌}
use native.Mathlib.Omega.{arith}
use lib.ListN.{get_or}
use Rattle.null_bits.proofs.CountLaws.{count-is}
use Rattle.null_bits.proofs.Laws.{part-is, count_at}
use Rattle.null_bits.proofs.count_part.Goals as goal

pub returns : goal.returns
returns c =
    let a = c.args in
    let x = get_or a.map.now a.i 0 / 2 ^ a.skip in
    count-is _ _ _ _ (rw (part-is x a.rows (omega arith), count_at a.map.now a.i a.skip a.rows (omega arith) (omega arith)))
