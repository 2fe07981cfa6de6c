use Rattle.appending.specs.ColumnLaws.{block-end, end_is, total-below, block-is, block-length, end_more, data-more, starts_more, lens-more}
use Rattle.column.specs.Room.{bare}
use Rattle.builder.specs.Others.{block_bytes}
use lib.Seq.{paste}
use Rattle.appending.specs.Laying.{end_from, put_data, put_starts, put_lens}
use mathlib.Core.List.{[]}
use Prim.Native.Nat.{◌+◌}
use lib.ListN.{length, set}
use Rattle.bounds.specs.Bounds.{byte-limit-small}
use mathlib.Core.Path.{◌≡◌, refl, sym, ap, ◌∙◌}
use native.Mathlib.Omega.{arith}
use borrow.Author.Rules.{rules}
use Rattle.appending.proofs.put_blocks.Goals as goal

pub loop-k-init : goal.loop-k-init
unfolding end_from put_data put_starts put_lens
loop-k-init c = (omega arith, refl, refl, refl, refl, refl, refl, refl)

pub overflow_add-a : goal.overflow_add-a
overflow_add-a c =
    let a = c.args in
    let bs = a.src.now in
    let ss = a.srcstarts.now in
    let ns = a.srclens.now in
    let k = c.loop-k.k in
    let p = c.requires in
    let h = c.loop-k-test.true in
    let b = block-end bs ss ns a.n p.listed p.lie k h in
    omega (arith, b, byte-limit-small)

pub slice_bounds-put_block-end : goal.slice_bounds-put_block-end
slice_bounds-put_block-end c =
    let a = c.args in
    let bs = a.src.now in
    let ss = a.srcstarts.now in
    let ns = a.srclens.now in
    let k = c.loop-k.k in
    let p = c.requires in
    let h = c.loop-k-test.true in
    let b = block-end bs ss ns a.n p.listed p.lie k h in
    omega (arith, b)

pub put_block-requires : goal.put_block-requires
put_block-requires c =
    let a = c.args in
    let bs = a.src.now in
    let ss = a.srcstarts.now in
    let ns = a.srclens.now in
    let k = c.loop-k.k in
    let p = c.requires in
    let h = c.loop-k-test.true in
    let v = c.loop-k.invariant in
    let ei = end_is bs ss ns a.n p.listed p.lie k a.base v.0 in
    let tb = total-below bs ss ns k a.n h in
    let bi = block-is bs ss ns a.n p.listed p.lie k h in
    let bl = block-length bs ss ns a.n p.listed p.lie k h in
    let q = ap length bi ∙ bl in
    (omega (arith, q, ei, tb, v, p.inside), omega (arith, v, p.starts-room), omega (arith, v, p.lens-room))

pub loop-k-preserved : goal.loop-k-preserved
loop-k-preserved c =
    let a = c.args in
    let bs = a.src.now in
    let ss = a.srcstarts.now in
    let ns = a.srclens.now in
    let k = c.loop-k.k in
    let p = c.requires in
    let h = c.loop-k-test.true in
    let v = c.loop-k.invariant in
    let bi = block-is bs ss ns a.n p.listed p.lie k h in
    let bl = block-length bs ss ns a.n p.listed p.lie k h in
    let f = block_bytes (bare [] bs ss ns) in
    let e = c.put_block.ensures in
    let l1 : length c.put_block.new.bytes ≡ length c.loop-k.bytes = search rules in
    let l2 : length c.put_block.new.starts ≡ length c.loop-k.starts = search rules in
    let l3 : length c.put_block.new.lens ≡ length c.loop-k.lens = search rules in (
      omega arith,
      l1 ∙ v.1,
      l2 ∙ v.2,
      l3 ∙ v.3,
      (λ i. v.4 i + sym bl i) ∙ end_more f k a.base,
      e.0 ∙ (λ i. paste (v.5 i) (v.4 i) (bi i) (length (bi i))) ∙ data-more f k a.bytes.now a.base,
      e.1 ∙ (λ i. set (v.6 i) (a.first + k) (v.4 i)) ∙ starts_more f k a.starts.now a.first a.base,
      e.2 ∙ (λ i. set (v.7 i) (a.first + k) (length (bi i))) ∙ lens-more f k a.lens.now a.first,
    )
