-- `comparison::judge_rows` meets its contract. The invariant: each row passed is reachable. Assumes nothing.
use Rattle.bounds.specs.Refusals.{accepted}
use mathlib.Core.Path.{sym, ◌∙◌}
use native.Mathlib.Omega.{arith}
use Rattle.column.proofs.LowestLaws.{lowest-none, lowest-bad}
use Rattle.column.specs.Room.{bare_of}
use Rattle.column.specs.Truth.{reachable_at}
use Rattle.comparison.proofs.judge_rows.Goals as goal

pub returns-then-not-reachable_at : goal.returns-then-not-reachable_at
returns-then-not-reachable_at c = let s = c.args in
    lowest-bad (reachable_at (bare_of s.l) s.c) _ s.c.rows accepted (omega arith)
    c.loop-k.invariant (sym c.reachable_at.ensures ∙ c.if-not-reachable_at.true)

pub returns : goal.returns
returns c = let s = c.args in
    lowest-none (reachable_at (bare_of s.l) s.c) s.c.rows accepted
    (λ r h. c.loop-k.invariant r (omega arith))
