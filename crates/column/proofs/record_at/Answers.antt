-- `column::record_at` meets its contract. Assumes nothing.
use mathlib.Core.Path.{sym, ap, ◌∙◌}
use native.Mathlib.Omega.{arith}
use lib.ListN.{get_or}
use Prim.Native.Nat.{ℕ}
use Rattle.column.proofs.FitLaws.{table_at}
use Rattle.column.specs.Lent.{table_of, block}
use Rattle.column.proofs.record_at.Goals as goal

pub returns : goal.returns
returns c = λ l h. let s = c.args.l in
    let k = c.view_block-k in sym (table_at s.starts.now s.lens.now k.result (omega arith) (omega arith))
    ∙ ap (λ (j : ℕ). get_or (table_of s.starts.now s.lens.now) j (block 0 0)) k.ensures.0
