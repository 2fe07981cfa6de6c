use Rattle.answering.proofs.Begins.{begins-long, begins-bad, begins-listed}
use mathlib.Core.Path.{sym, ◌∙◌}
use borrow.Author.Rules.{rules}
use Rattle.answering.proofs.begin.Goals as goal

pub returns-then-input-gt-INPUT : goal.returns-then-input-gt-INPUT
returns-then-input-gt-INPUT c = rw c.refused.ensures (begins-long _ _ _ _ _ _ _ c.if-input-gt-INPUT.true)

pub returns-then-bad-ne0 : goal.returns-then-bad-ne0
returns-then-bad-ne0 c =
    rw
    c.refused-then-bad-ne0.ensures
    (begins-bad _ _ _ _ _ _ _ _ c.if-input-gt-INPUT.false c.first_bad-bad.ensures c.if-bad-ne0.true)

pub returns : goal.returns
returns c =
    begins-listed _ _ _ _ _ _ _
    (record { views = search rules; bytes = search rules; starts = search rules; lens = search rules; nulls = search rules })
    c.if-input-gt-INPUT.false
    (sym c.first_bad-bad.ensures
    ∙ c.if-bad-ne0.false)
    c.build-c.ensures
