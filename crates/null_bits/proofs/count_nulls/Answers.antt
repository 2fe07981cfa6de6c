use mathlib.Core.Path.{sym}
use Rattle.null_bits.proofs.CountLaws.{nulls-valid, nulls-none}
use native.Mathlib.Omega.{arith}
use Rattle.null_bits.proofs.count_nulls.Goals as goal

pub returns-then-mapped : goal.returns-then-mapped
returns-then-mapped c =
    let a = c.args in
    rw c.if-mapped.true (omega (arith, nulls-valid a.map.now a.first a.rows))

pub returns-else-mapped : goal.returns-else-mapped
returns-else-mapped c =
    let a = c.args in
    rw c.if-mapped.false (sym (nulls-none a.map.now a.first a.rows))
