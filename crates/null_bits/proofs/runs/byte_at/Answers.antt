use Prim.Native.Nat.{◌/◌}
use Rattle.null_bits.proofs.ByteLaws.{read_whole, read-split}
use native.Mathlib.Omega.{arith}
use Rattle.null_bits.proofs.runs.byte_at.Goals as goal

pub returns-then-pos-eq0 : goal.returns-then-pos-eq0
returns-then-pos-eq0 c =
    let a = c.args in
    ((c.type_inv.map (a.row / 8)).fits, λ j h. read_whole a.map.now a.row j c.if-pos-eq0.true h)

pub returns : goal.returns
returns c =
    let a = c.args in
    (omega arith, λ j h. read-split a.map.now a.row j (c.type_inv.map (a.row / 8)).fits h)
