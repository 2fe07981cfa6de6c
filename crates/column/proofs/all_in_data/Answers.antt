-- `column::all_in_data` meets its contract. Assumes nothing.
use mathlib.Core.Path.{sym, ◌∙◌}
use native.Mathlib.Omega.{arith}
use Rattle.column.proofs.FitLaws.{all_none, all_more, all-not}
use Rattle.column.proofs.all_in_data.Goals as goal

pub loop-k-init : goal.loop-k-init
loop-k-init c = all_none _ _ _ _ _

pub returns-then-not-in_data : goal.returns-then-not-in_data
returns-then-not-in_data c = all-not _ _ _ _ _ _ _ (omega arith) (omega arith) (omega arith) (sym c.in_data.ensures ∙ c.if-not-in_data.true)

pub loop-k-preserved : goal.loop-k-preserved
loop-k-preserved c =
    all_more _ _ _ _ _ _ (omega arith) (omega arith) c.loop-k.invariant (sym c.in_data.ensures ∙ c.if-not-in_data.false)
