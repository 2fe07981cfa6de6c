use Rattle.basis.specs.Pick.{lt_yes, lt_no}
use mathlib.Core.Path.{refl}
use Rattle.filing.proofs.record_or.Goals as goal

pub returns-then-k-s : goal.returns-then-k-s
returns-then-k-s c = (lt_yes _ _ _ _ _ c.if-k-s.true refl, lt_yes _ _ _ _ _ c.if-k-s.true refl)

pub returns : goal.returns
returns c = (lt_no _ _ _ _ _ c.if-k-s.false refl, lt_no _ _ _ _ _ c.if-k-s.false refl)
