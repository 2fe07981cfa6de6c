-- A long value that merges takes the view of the earliest row that a value call stored with equal bytes since start or finish, after any calls.
-- Assumes nothing.
use mathlib.Core.List.{List, []}
use Prim.Native.Nat.{ℕ}
use Rattle.builder.specs.declared.Merging.{Merging}
use Rattle.builder.specs.State.{Builder}
use Rattle.builder.specs.Start.{start}
use Rattle.promise.specs.Calls.{Call, Ran, none, more}
use Rattle.promise.specs.Merged.{Memo, memo, recall, recall_all, Merged}
use Rattle.promise.proofs.Steps.{Inv}
use Rattle.promise.proofs.Finishing.{inv-start}
use Rattle.promise.proofs.Kept.{inv-put}
use Rattle.promise.proofs.Merging.{Table, reads, takes-it, table-put, table-start}

-- the table and the rows after any run
ran : (m : Merging) {room : ℕ} {cs : List Call} {b e : Builder} (k : Memo) → Ran cs b e → Table m b k → Inv room b k.rows
    → Table m e (recall_all m cs b k) × Inv room e (recall_all m cs b k).rows
unfolding recall_all
ran m k none g i = (g, i)
ran m k (more {c = c} {cs} {b} w r) g i = ran m (recall m c b k) r (table-put m b k g (reads b k.rows i) c w) (inv-put c b k.rows i w)

pub merged : Merged
merged =
    record {
      takes = λ t l places cs b w r n x h a.
          let k : Memo = recall_all t.merging cs (start t l places) (memo [] []) in
          let z = ran t.merging (memo [] []) r (table-start t l places) (inv-start t l places w) in
          takes-it t.merging b k z.0 (reads b k.rows z.1) x n h a;
    }
