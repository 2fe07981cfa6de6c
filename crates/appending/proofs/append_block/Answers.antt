use Rattle.builder.specs.State.{closed}
use Rattle.builder.specs.declared.State.{State}
use Rattle.appending.specs.BlockLaws.{blocked, does-not-block, does-block}
use lib.ListN.{length}
use Rattle.bounds.specs.Refusals.{is_accepted}
use Rattle.bounds.specs.Bounds.{block-limit-small, byte-limit-small}
use mathlib.Core.Path.{◌≡◌, sym, ap, ◌∙◌}
use native.Mathlib.Omega.{arith}
use borrow.Author.Rules.{rules}
use Rattle.appending.proofs.append_block.Goals as goal

pub returns-then-is_err : goal.returns-then-is_err
returns-then-is_err c = does-not-block _ _ _ _ _ _ _ _ _ c.why_block-why.ensures c.if-is_err.ensures.negation

pub put_record-requires : goal.put_record-requires
put_record-requires c =
    let j = blocked _ _ _ _ _ _ _ _ (ap is_accepted (sym c.why_block-why.ensures) ∙ c.if-is_err.ensures.negation) in
    let f = j.fit in
    (f.starts, f.lens)

pub close-t-requires : goal.close-t-requires
close-t-requires c =
    let j = blocked _ _ _ _ _ _ _ _ (ap is_accepted (sym c.why_block-why.ensures) ∙ c.if-is_err.ensures.negation) in
    let f = j.fit in
    (omega (arith, f.blocks, block-limit-small), omega (arith, f.small, byte-limit-small))

pub put_block-requires : goal.put_block-requires
unfolding closed
put_block-requires c =
    let j = blocked _ _ _ _ _ _ _ _ (ap is_accepted (sym c.why_block-why.ensures) ∙ c.if-is_err.ensures.negation) in
    let b = ap (λ (z : State). z.blocks) c.close-t.ensures in
    let d = ap (λ (z : State). z.base) c.close-t.ensures in
    let e : length c.put_record.new.starts ≡ length c.args.starts.now = search rules in
    let g : length c.put_record.new.lens ≡ length c.args.lens.now = search rules in
    (omega (arith, d, j.inside), omega (arith, b, e, j.starts), omega (arith, b, g, j.lens))

pub block_more-requires : goal.block_more-requires
unfolding closed
block_more-requires c =
    let j = blocked _ _ _ _ _ _ _ _ (ap is_accepted (sym c.why_block-why.ensures) ∙ c.if-is_err.ensures.negation) in
    let b = ap (λ (z : State). z.blocks) c.close-t.ensures in
    let d = ap (λ (z : State). z.base) c.close-t.ensures in
    (omega (arith, b, j.limit, block-limit-small), omega (arith, d, j.small, byte-limit-small))

pub returns : goal.returns
returns c =
    does-block _ _ _ _ _ _ _ _ _ _ c.why_block-why.ensures c.if-is_err.ensures.negation c.close-t.ensures
    c.put_record.ensures.0 c.put_record.ensures.1 c.block_more.ensures c.put_block.ensures.0 c.put_block.ensures.1
    c.put_block.ensures.2
