-- `filing_columns::put_blocks` meets its contract. Assumes nothing.
use Rattle.std.proofs.Common.{◌≡◌, ◌+◌, length, set, ap, ◌∙◌, add-one, arith}
use Rattle.std.proofs.Math.Seq.{paste}
use Rattle.column.specs.Lent.{block}
use Rattle.column.specs.Meaning.{bytes_of}
use Rattle.appending.specs.Laying.{end_from, put_data, put_records}
use Rattle.filing_columns.proofs.ColumnsLaws.{taking, data-none, records-none, end_none, block_inside, data-more, records-more, end_more, block_room_lem}
use Rattle.filing_columns.proofs.put_blocks.Goals as goal

pub loop-k-init : goal.loop-k-init
loop-k-init c =
    let a = c.args in
    let src = a.src.now in
    let u = a.srctable.now in
    record {
      few = omega arith;
      bytes-are = data-none src u a.bytes.now a.base;
      records = records-none src u a.table.now a.first a.base;
      end = end_none src u a.base;
    }

pub lay_block-requires : goal.lay_block-requires
lay_block-requires c =
    let a = c.args in
    let src = a.src.now in
    let u = a.srctable.now in
    let i = c.loop-k.invariant in
    let h = c.loop-k-test.true in
    let e = c.block_or-b.ensures in
    let l = length a.bytes.now in
    let r = block_room_lem src u l a.first a.base a.n c.requires c.loop-k.k h c.block_or-b.result e in
    (omega (arith, r, i.end, c.loop-k.auto.bytes), block_inside src u l a.first a.base a.n c.requires c.loop-k.k h c.block_or-b.result e)

pub overflow_add-at : goal.overflow_add-at
overflow_add-at c =
    let a = c.args in
    let r = block_room_lem a.src.now a.srctable.now (length a.bytes.now) a.first a.base a.n c.requires c.loop-k.k c.loop-k-test.true
    c.block_or-b.result c.block_or-b.ensures in
    omega (arith, r, c.loop-k.invariant.end)

pub loop-k-preserved : goal.loop-k-preserved
loop-k-preserved c =
    let a = c.args in
    let src = a.src.now in
    let u = a.srctable.now in
    let i = c.loop-k.invariant in
    let k = c.loop-k.k in
    let b = c.block_or-b.result in
    let h = c.loop-k-test.true in
    let e = c.block_or-b.ensures in
    let l = length a.bytes.now in
    record {
      few = omega (arith, h);
      bytes-are = c.lay_block.ensures ∙ (λ j. paste (i.bytes-are j) (i.end j) (bytes_of src b) b.len)
          ∙ rw add-one (data-more src u l a.first a.base a.n c.requires k h b e a.bytes.now);
      records = c.put_or.ensures ∙ (λ j. set (i.records j) (a.first + k) (block (i.end j) b.len))
          ∙ rw add-one (records-more src u l a.first a.base a.n c.requires k h b e a.table.now);
      end = ap (λ z. z + b.len) i.end ∙ rw add-one (end_more src u l a.first a.base a.n c.requires k h b e);
    }

pub returns : goal.returns
returns c =
    let a = c.args in
    let f = taking a.src.now a.srctable.now in
    let i = c.loop-k.invariant in
    let e : c.loop-k.k ≡ a.n = omega (arith, i.few, c.loop-k-test.false) in (
      i.end ∙ ap (λ z. end_from f z a.base) e,
      i.bytes-are ∙ ap (λ z. put_data f z a.bytes.now a.base) e,
      i.records ∙ ap (λ z. put_records f z a.table.now a.first a.base) e,
    )
