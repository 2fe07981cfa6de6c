use Rattle.filing.specs.LayLaws.{laid-room, laid-no, laid-yes}
use Rattle.builder.specs.State.{closed}
use Rattle.builder.specs.declared.State.{State}
use Rattle.bounds.specs.Bounds.{block-limit-small, byte-limit-small}
use mathlib.Core.Path.{refl, ap}
use lib.ListN.{length}
use native.Mathlib.Omega.{arith}
use Rattle.filing.proofs.append_block.Goals as goal

pub returns-then-is_err : goal.returns-then-is_err
returns-then-is_err c =
    laid-no c.args.s c.args.views.now c.args.bytes.now c.args.nulls.now c.args.places.now c.args.x.now
    (length c.args.table.now) _ c.why_block-why.ensures c.if-is_err.ensures.negation _ refl

pub close-t-requires : goal.close-t-requires
close-t-requires c =
    let j = laid-room c.args.s c.args.views.now c.args.bytes.now c.args.nulls.now c.args.places.now
    c.args.x.now (length c.args.table.now) _ c.why_block-why.ensures
    c.if-is_err.ensures.negation in
    let f = j.fit in (omega (arith, f.blocks, block-limit-small), omega (arith, f.small, byte-limit-small))

pub lay-requires : goal.lay-requires
unfolding closed
lay-requires c =
    let j = laid-room c.args.s c.args.views.now c.args.bytes.now c.args.nulls.now c.args.places.now
    c.args.x.now (length c.args.table.now) _ c.why_block-why.ensures
    c.if-is_err.ensures.negation in
    let d = ap (λ (z : State). z.base) c.close-t.ensures in
    omega (arith, d, j.inside)

pub block_more-requires : goal.block_more-requires
unfolding closed
block_more-requires c =
    let j = laid-room c.args.s c.args.views.now c.args.bytes.now c.args.nulls.now c.args.places.now
    c.args.x.now (length c.args.table.now) _ c.why_block-why.ensures c.if-is_err.ensures.negation in
    let b = ap (λ (z : State). z.blocks) c.close-t.ensures in
    let d = ap (λ (z : State). z.base) c.close-t.ensures in
    (omega (arith, b, j.limit, block-limit-small), omega (arith, d, j.small, byte-limit-small))

pub returns : goal.returns
returns c =
    laid-yes c.args.s c.args.views.now c.args.bytes.now c.args.nulls.now c.args.places.now c.args.x.now
    (length c.args.table.now) _ c.why_block-why.ensures _ c.if-is_err.ensures.negation
    c.close-t.ensures c.block_more.ensures c.lay.ensures _ refl _ _ c.put_open.ensures c.put_or.ensures
