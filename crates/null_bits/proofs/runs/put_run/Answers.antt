use Rattle.null_bits.proofs.ByteLaws.{part-run, run_of}
use Prim.Native.Nat.{◌-◌, ◌%◌}
use native.Mathlib.Omega.{arith}
use Rattle.null_bits.proofs.runs.put_run.Goals as goal

pub returns-then-rows-gap : goal.returns-then-rows-gap
returns-then-rows-gap c =
    let a = c.args in
    part-run c.all_bits-x.result a.valid c.all_bits-x.ensures.0 c.all_bits-x.ensures.1 a.map.now _ a.first a.rows (omega arith)
    c.put_part.ensures

pub returns : goal.returns
returns c =
    let a = c.args in
    run_of c.all_bits-x.result a.valid c.all_bits-x.ensures.0 c.all_bits-x.ensures.1 a.map.now _ _ _ a.first
    ((8 - a.first % 8) % 8) a.rows (omega arith) (omega arith) (omega arith) (omega arith)
    c.put_part-2.ensures
    c.put_bytes.ensures
    c.put_part-3.ensures
