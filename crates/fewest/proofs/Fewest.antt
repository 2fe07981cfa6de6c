-- No lawful cut has fewer blocks than an accepted compaction, by the contract of the call, over two number slices or over records. Assumes nothing.
use mathlib.Core.Path.{◌≡◌, sym, ap, ◌∙◌}
use mathlib.Core.List.{List}
use Prim.Native.Nat.{ℕ, ◌<◌}
use lib.Dec.{ltb}
use lib.ListN.{length, get_or, take, get_or-map}
use lib.Seq.{get_or-take}
use contract.Lifetimes.{Lfts}
use denote.Triple.Clauses.{AtExit}
use borrow.Fn.Kinds.{Dens, res_t, ended_of}
use Rattle.compaction.proofs.compact.Kinds as compact-kinds
use Rattle.compaction.proofs.compact.Reads as compact
use Rattle.bounds.specs.Refusals.{if_accepted, is_accepted, accepted, Why}
use Rattle.views.specs.View.{length_of}
use Rattle.column.specs.declared.Block.{Block}
use Rattle.column.specs.declared.Column.{Column}
use Rattle.column.specs.Lent.{Lent, buffers, block, block_at}
use Rattle.column.specs.Meaning.{row_view}
use Rattle.laying.specs.RoomLaws.{taken}
use Rattle.compaction.specs.declared.Outcome.{Outcome}
use Rattle.compaction.specs.Compact.{new_lens, why_compact, compacted, compact_column, compact_of}
use Rattle.compaction_blocks.specs.Compacts.{Compacts}
use Rattle.promise.specs.Answered.{lent_as}
use Rattle.promise.proofs.Compactions.{new-lens}
use Rattle.promise.proofs.Outputs.{compact-of, compact-in, compact-out, compact-answers}
use Rattle.promise.proofs.Answered.{compact-why, compact-lent, compact-column, carried}
use Rattle.fewest.specs.Fewest.{filled_blocks, Fewest, NoFewer}
use Rattle.fewest.proofs.Those.{those-map}
use Rattle.fewest.proofs.Counted.{filled_in, lawful-fewest}
use Rattle.fewest.proofs.First.{first-only}
use Rattle.fewest.proofs.Owned.{long-lens, own-lawful, own-count}

-- ---- what compaction writes, by the definitions

module _ (most : ℕ) (l : Lent) (c : Column) (out : Lent) (a : why_compact most l c out ≡ accepted) where
  abbrev new : Lent
  new = compacted most l c out

  abbrev column : Column
  column = compact_column most l c

  filled-new : length (filled_blocks new column) ≡ filled_in (new_lens most l c)
  filled-new = those-map (ltb 0) (λ (b : Block). b.len) (take column.blocks new.table) ∙ ap filled_in (new-lens most l c out a)

  len-new : (k : ℕ) → k < column.blocks → (block_at new k).len ≡ get_or (new_lens most l c) k 0
  len-new k h =
      ap (λ (b : Block). b.len) (sym (get_or-take column.blocks new.table k (block 0 0) h))
      ∙ sym (get_or-map (λ (b : Block). b.len) (take column.blocks new.table) k (block 0 0))
      ∙ ap (λ (ns : List ℕ). get_or ns k 0) (new-lens most l c out a)

  pub compacted-fewest : Fewest most l c new column
  compacted-fewest =
      record {
        fewest = λ bs w. rw (filled-new, ← long-lens most l c out a) (lawful-fewest most _ bs w);
        own = own-lawful most l c out a;
        count = own-count most l c out a ∙ sym filled-new;
        first = λ k h e. first-only most (λ r. length_of (row_view l c r)) c.rows k h (sym (len-new k h) ∙ e);
      }

-- ---- what the calls answer

module _ (most : ℕ) (l : Lent) (c : Column) (out : Lent) (r : Outcome) (vs bs : List ℕ) (t : List Block) (ms : List ℕ)
    (p : Compacts most l c out r vs bs t ms) (e : r.why ≡ accepted) where
  why-records : why_compact most l c out ≡ accepted
  unfolding compact_of
  why-records = sym (ap (λ (o : Outcome). o.why) p.answer) ∙ e

  column-records : compact_column most l c ≡ r.column
  unfolding compact_of
  column-records = sym (ap (λ (o : Outcome). o.column) p.answer ∙ ap (λ (y : Why). if_accepted y (compact_column most l c) c) why-records)

  lent-records : compacted most l c out ≡ buffers vs bs t ms
  lent-records =
      let y : Why = why_compact most l c out in
      let w = ap is_accepted why-records in
      let v = taken y (compacted most l c out).views out.views vs w p.views in
      let b = taken y (compacted most l c out).bytes out.bytes bs w p.bytes in
      let s = taken y (compacted most l c out).table out.table t w p.table in
      let m = taken y (compacted most l c out).nulls out.nulls ms w p.nulls in
      sym (λ i. buffers (v i) (b i) (s i) (m i))

pub no-fewer : NoFewer
no-fewer =
    record {
      slices = λ most b c o r o' m.
          carried (Fewest most (lent_as b) c) (compact-lent most b c o r o' m) (compact-column most b c o r o' m)
          (compacted-fewest most (lent_as b) c (lent_as o) (compact-why most b c o r o' m));
      records = λ most l c out r vs bs t ms p e.
          carried (Fewest most l c) (lent-records most l c out r vs bs t ms p e) (column-records most l c out r vs bs t ms p e)
          (compacted-fewest most l c out (why-records most l c out r vs bs t ms p e));
    }

-- of the function `compact`, by what its own `ensures` says of an accepted answer and of the slices at exit
pub compact-fewest : (κs : Lfts 7) (a : Dens κs compact-kinds.ps) (z : (res_t compact-kinds.r κs).Denot)
    (s : AtExit (ended_of 7 compact-kinds.ps compact-kinds.r) κs) → compact.Post κs a z s → z.why ≡ accepted
    → Fewest a.1.1.0 (lent_as (compact-of κs a)) a.1.0 (lent_as (compact-out κs s)) z.column
compact-fewest κs a z s p e =
    no-fewer.slices a.1.1.0 (compact-of κs a) a.1.0 (compact-in κs a) z (compact-out κs s) (compact-answers κs a z s p e)
