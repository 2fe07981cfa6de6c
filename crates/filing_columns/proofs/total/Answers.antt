-- `filing_columns::total` meets its contract. Assumes nothing.
use Rattle.std.specs.Prelude.{sum_by}
use Rattle.std.proofs.Common.{rules}
use Rattle.std.proofs.iter.runs.Sources.{sums}
use Rattle.column.specs.declared.Block.{Block}
use Rattle.filing_columns.proofs.ColumnsLaws.{sizes-sum, sizes-small}
use Prim.Native.Nat.{◌<◌}
use lib.ListN.{take}
use mathlib.Core.Path.{◌≡◌, ◌∙◌}
use native.Mathlib.Omega.{arith}
use Rattle.filing_columns.proofs.total.Goals as goal

pub sum-requires-clause-fits : goal.sum-requires-clause-fits
sum-requires-clause-fits c =
    let a = c.args in
    let e = sizes-sum a.table.now a.n c.requires.0 in
    let m = sizes-small a.table.now a.n c.requires.1 in
    let h : sum_by (λ (b : Block). b.len) (take a.n a.table.now) < 18446744073709551616 = omega (arith, e, m) in
    search (rules, sums, h)

pub returns : goal.returns
returns c =
    let a = c.args in
    let s : c.sum.result ≡ sum_by (λ (b : Block). b.len) (take a.n a.table.now) = search (rules, sums) in
    s ∙ sizes-sum a.table.now a.n c.requires.0
