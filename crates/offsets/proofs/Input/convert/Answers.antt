use Rattle.std.proofs.Common.{arith}
use Rattle.offsets.specs.CallLaws.{converted-not, converted, allowed, roomed, write-in, answered_ok, answered_err}
use Rattle.offsets.proofs.Input.convert.Goals as goal

pub returns-in-Err : goal.returns-in-Err
returns-in-Err c = converted-not _ _ _ _ _ _ _ _ _ (answered_err _ _ _ c.in-Err.ensures)

pub write-requires : goal.write-requires
write-requires c = let g = answered_ok _ _ _ c.in-Ok.ensures in write-in _ _ _ _ _ _ _ _ g.0 _ g.1

pub chunks-requires : goal.chunks-requires
chunks-requires c = let g = answered_ok _ _ _ c.in-Ok.ensures in let p = roomed _ _ _ _ _ _ _ _ g.0 in omega (arith, p.bytes)

pub bounds-newstarts-0 : goal.bounds-newstarts-0
bounds-newstarts-0 c = let g = answered_ok _ _ _ c.in-Ok.ensures in let p = roomed _ _ _ _ _ _ _ _ g.0 in omega (arith, p.starts)

pub bounds-newlens-0 : goal.bounds-newlens-0
bounds-newlens-0 c = let g = answered_ok _ _ _ c.in-Ok.ensures in let p = roomed _ _ _ _ _ _ _ _ g.0 in omega (arith, p.lens)

pub copy_column-requires : goal.copy_column-requires
copy_column-requires c =
    let g = answered_ok _ _ _ c.in-Ok.ensures in
    let p = roomed _ _ _ _ _ _ _ _ g.0 in
    let a = allowed _ _ _ _ _ _ _ _ g.0 in
    (omega (arith, g.1, p.nulls), omega (arith, g.1, p.few), (λ t. omega (arith, g.1, a.map t)), omega (arith, g.1, p.few))

pub any_null-requires : goal.any_null-requires
any_null-requires c =
    let g = answered_ok _ _ _ c.in-Ok.ensures in
    let a = allowed _ _ _ _ _ _ _ _ g.0 in
    λ t. omega (arith, g.1, a.map t)

pub returns-in-Ok : goal.returns-in-Ok
returns-in-Ok c =
    let g = answered_ok _ _ _ c.in-Ok.ensures in
    converted _ _ _ _ _ _ _ _ g.0 _ g.1 _ _ _ _ c.any_null.ensures c.write.ensures c.chunks.ensures c.copy_column.ensures
