-- `column::spot_reached` meets its contract. Assumes nothing.
use native.Mathlib.Omega.{arith}
use Rattle.bounds.specs.Bounds.{byte-limit-is}
use Rattle.column.proofs.SpotLaws.{spot-short, reached-spans, reached-data}
use Rattle.column.proofs.spot_reached.Goals as goal

pub bounds-l-k : goal.bounds-l-k
bounds-l-k c =
    let p = c.requires in
    let g = reached-spans _ _ _ _ _ _ _ _ _ c.view_len-len.ensures.0 c.if-len-gt-SHORT_MOST.true
    c.view_block-k.ensures.0 c.view_offset-offset.ensures.0 p.0 p.1 in
    omega (arith, g.block, p.0.starts)

pub overflow_add-result : goal.overflow_add-result
overflow_add-result c =
    let p = c.requires in
    let g = reached-spans _ _ _ _ _ _ _ _ _ c.view_len-len.ensures.0 c.if-len-gt-SHORT_MOST.true
    c.view_block-k.ensures.0 c.view_offset-offset.ensures.0 p.0 p.1 in
    omega (arith, g.limit, g.range, byte-limit-is)

pub returns-then-len-gt-SHORT_MOST : goal.returns-then-len-gt-SHORT_MOST
returns-then-len-gt-SHORT_MOST c =
    let p = c.requires in
    reached-data _ _ _ _ _ _ _ _ _ c.view_len-len.ensures.0 c.if-len-gt-SHORT_MOST.true
    c.view_block-k.ensures.0 c.view_offset-offset.ensures.0 p.0 p.1

pub returns : goal.returns
returns c = spot-short _ _ _ _ _ _ c.view_len-len.ensures.0 c.if-len-gt-SHORT_MOST.false
