use Rattle.std.proofs.Common.{◌≡◌, refl, arith}
use Rattle.offsets.proofs.RowLaws.{rows_none, rows_more}
use Rattle.offsets.proofs.Input.write.Goals as goal

pub loop-j-init : goal.loop-j-init
loop-j-init c = record { long = refl; put = rows_none _ _ }

pub put_row-requires : goal.put_row-requires
put_row-requires c = let p = c.requires in
    (p.0.cut c.loop-j.j (omega arith), (λ e. omega (arith, p.0.map e)), omega arith, omega arith, omega arith)

pub loop-j-preserved : goal.loop-j-preserved
loop-j-preserved c = record { long = omega arith; put = rows_more _ _ _ _ _ c.loop-j.invariant.put c.put_row.ensures }

pub returns : goal.returns
returns c = let e : c.loop-j.j ≡ c.args.rows = omega arith in rw (← e) c.loop-j.invariant.put
