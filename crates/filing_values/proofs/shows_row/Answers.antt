use Rattle.filing.specs.RowLaws.{or-start, or-size}
use Rattle.filing.specs.Rows.{RowNames}
use Rattle.builder.specs.SearchLaws.{shows-late, shows-length, shows-past, shows-no-data, shows-over, shows-here}
use Rattle.column.proofs.FitLaws.{in-data-gives}
use Rattle.column.specs.Lent.{block}
use Rattle.column.specs.declared.Block.{Block}
use Rattle.views.specs.View.{view_at, block_of}
use Rattle.bounds.specs.Bounds.{byte-limit-small}
use Rattle.filing_values.proofs.SearchLaws.{shows-table}
use Prim.Native.Nat.{ℕ}
use mathlib.Core.List.{List}
use lib.ListN.{get_or}
use mathlib.Core.Path.{◌≡◌, sym, ap, ◌∙◌}
use native.Mathlib.Omega.{arith}
use Rattle.filing_values.proofs.shows_row.Goals as goal

record_is : (t : List Block) (vs : List ℕ) (r k : ℕ) (b : Block) (ss ns : List ℕ) → k ≡ block_of (view_at vs r) → b ≡ get_or t k (block 0 0)
    → RowNames vs r (get_or t (block_of (view_at vs r)) (block 0 0)) ss ns → b ≡ block (get_or ss k 0) (get_or ns k 0)
record_is t vs r k b ss ns ek eb nm = eb ∙ ap (λ (j : ℕ). get_or t j (block 0 0)) ek ∙ nm k ek

pub returns-then-s-r : goal.returns-then-s-r
returns-then-s-r c = shows-table _ _ _ _ _ _ _ c.requires (λ ss ns rd nm. shows-late _ _ _ _ _ _ _ c.if-s-r.true)

pub returns-then-len-x : goal.returns-then-len-x
returns-then-len-x c = shows-table _ _ _ _ _ _ _ c.requires (λ ss ns rd nm. shows-length _ _ _ ss ns _ _ rd _ c.if-s-r.false
    c.view_len-len.ensures.0 c.if-len-x.true)

pub returns-then-all_blocks-k : goal.returns-then-all_blocks-k
returns-then-all_blocks-k c = shows-table _ _ _ _ _ _ _ c.requires (λ ss ns rd nm. shows-past _ _ _ ss ns _ _ rd _ _ c.if-s-r.false
    c.view_len-len.ensures.0 c.view_block-k.ensures.0 (omega (arith, c.requires.3)) (omega arith))

pub returns-then-not-in_data : goal.returns-then-not-in_data
returns-then-not-in_data c = shows-table _ _ _ _ _ _ _ c.requires (λ ss ns rd nm.
    let e = record_is c.args.table.now c.args.views.now c.args.r _ _ ss ns c.view_block-k.ensures.0 c.block_or-b.ensures (nm c.if-s-r.false) in
    shows-no-data _ _ _ ss ns _ _ rd _ _ c.if-s-r.false c.view_len-len.ensures.0
    c.view_block-k.ensures.0 (omega (arith, c.requires.3)) _ _ (omega arith)
    (or-start c.args.s _ _ ss ns _ c.record_or-d.ensures.0 e) (or-size c.args.s _ _ ss ns _ c.record_or-d.ensures.1 e) _ c.in_data.ensures
    (c.if-not-in_data.true))

pub returns-then-d-o : goal.returns-then-d-o
returns-then-d-o c = shows-table _ _ _ _ _ _ _ c.requires (λ ss ns rd nm.
    let e = record_is c.args.table.now c.args.views.now c.args.r _ _ ss ns c.view_block-k.ensures.0 c.block_or-b.ensures (nm c.if-s-r.false) in
    shows-over _ _ _ ss ns _ _ rd _ _ c.if-s-r.false c.view_len-len.ensures.0
    c.view_block-k.ensures.0 (omega (arith, c.requires.3)) _ _ (omega arith)
    (or-start c.args.s _ _ ss ns _ c.record_or-d.ensures.0 e) (or-size c.args.s _ _ ss ns _ c.record_or-d.ensures.1 e) _ c.in_data.ensures
    (c.if-not-in_data.false) _ c.view_offset-o.ensures.0 (omega arith))

pub overflow_add-a : goal.overflow_add-a
overflow_add-a c = omega (arith, byte-limit-small, in-data-gives _ _ _ (sym c.in_data.ensures ∙ c.if-not-in_data.false))

pub overflow_add-e : goal.overflow_add-e
overflow_add-e c = omega (arith, byte-limit-small, in-data-gives _ _ _ (sym c.in_data.ensures ∙ c.if-not-in_data.false))

pub slice_bounds-same-end : goal.slice_bounds-same-end
slice_bounds-same-end c = omega (arith, in-data-gives _ _ _ (sym c.in_data.ensures ∙ c.if-not-in_data.false))

pub returns : goal.returns
returns c = shows-table _ _ _ _ _ _ _ c.requires (λ ss ns rd nm.
    let e = record_is c.args.table.now c.args.views.now c.args.r _ _ ss ns c.view_block-k.ensures.0 c.block_or-b.ensures (nm c.if-s-r.false) in
    shows-here _ _ _ ss ns _ _ rd _ _ c.if-s-r.false c.view_len-len.ensures.0
    c.view_block-k.ensures.0 (omega (arith, c.requires.3)) _ _ (omega arith)
    (or-start c.args.s _ _ ss ns _ c.record_or-d.ensures.0 e) (or-size c.args.s _ _ ss ns _ c.record_or-d.ensures.1 e) _
    c.in_data.ensures (c.if-not-in_data.false) _
    c.view_offset-o.ensures.0 _ (omega arith) c.same.ensures)
