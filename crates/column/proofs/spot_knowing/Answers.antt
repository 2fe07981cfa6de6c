-- `column::spot_knowing` meets its contract. Assumes nothing.
use mathlib.Core.Path.{sym, ◌∙◌}
use native.Mathlib.Omega.{arith}
use Rattle.bounds.specs.Bounds.{byte-limit-is}
use Rattle.column.proofs.FitLaws.{all-each, in-data-gives}
use Rattle.column.proofs.SpotLaws.{spot-short, spot-no-block, long-over, long-past, long-data}
use Rattle.column.proofs.spot_knowing.Goals as goal
use Rattle.column.proofs.spot_knowing.Goals.{then-size-offset-via-then-size-offset, then-size-offset-via-else-size-offset+then-not-lies}

pub returns-then-blocks-k : goal.returns-then-blocks-k
returns-then-blocks-k c = spot-no-block _ _ _ _ _ _ c.view_len-len.ensures.0 c.if-len-gt-SHORT_MOST.true _
    c.view_block-k.ensures.0 c.if-blocks-k.true

pub returns-then-size-offset : goal.returns-then-size-offset
returns-then-size-offset c =
    let p = c.requires in
    elim c.then-size-offset.branch [
      | then-size-offset-via-then-size-offset w ↦
          long-over _ _ _ _ _ _ _ c.view_len-len.ensures.0 c.if-len-gt-SHORT_MOST.true _ c.view_block-k.ensures.0
          c.if-blocks-k.false p.0.starts p.0.lens _ c.view_offset-offset.ensures.0 w.if-size-offset.true
      | then-size-offset-via-else-size-offset+then-not-lies w ↦
          long-past _ _ _ _ _ _ _ c.view_len-len.ensures.0 c.if-len-gt-SHORT_MOST.true _ c.view_block-k.ensures.0
          c.if-blocks-k.false p.0.starts p.0.lens _ c.view_offset-offset.ensures.0
          (sym (w.lies.ensures (λ e. all-each _ _ _ _ _ _ _ p.0.starts p.0.lens (p.1 e) c.if-blocks-k.false)) ∙ w.if-not-lies.true)
    ]

pub overflow_add-result : goal.overflow_add-result
overflow_add-result c =
    let p = c.requires in
    let g = in-data-gives _ _ _ (sym (c.lies.ensures (λ e. all-each _ _ _ _ _ _ _ p.0.starts p.0.lens (p.1 e) c.if-blocks-k.false))
    ∙ c.if-not-lies.false) in
    omega (arith, g.0, c.if-size-offset.false, byte-limit-is)

pub returns-then-len-gt-SHORT_MOST : goal.returns-then-len-gt-SHORT_MOST
returns-then-len-gt-SHORT_MOST c =
    let p = c.requires in
    let g = in-data-gives _ _ _ (sym (c.lies.ensures (λ e. all-each _ _ _ _ _ _ _ p.0.starts p.0.lens (p.1 e) c.if-blocks-k.false))
    ∙ c.if-not-lies.false) in
    long-data _ _ _ _ _ _ _ c.view_len-len.ensures.0 c.if-len-gt-SHORT_MOST.true _ c.view_block-k.ensures.0
    c.if-blocks-k.false p.0.starts p.0.lens _ c.view_offset-offset.ensures.0 g.0 g.1
    c.if-size-offset.false

pub returns : goal.returns
returns c = spot-short _ _ _ _ _ _ c.view_len-len.ensures.0 c.if-len-gt-SHORT_MOST.false
