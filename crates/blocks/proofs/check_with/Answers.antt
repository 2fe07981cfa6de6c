-- `blocks::check_with` meets its contract. Assumes nothing.
use mathlib.Core.Path.{sym, ◌∙◌}
use native.Mathlib.Omega.{arith}
use Rattle.blocks.specs.PlacesLaws.{check-unfit, check-row, check-block, check-valid}
use Rattle.blocks.proofs.check_with.Goals as goal

pub returns-then-not-fits_with : goal.returns-then-not-fits_with
returns-then-not-fits_with c = λ bytes table e s. check-unfit _ _ (sym (c.fits_with.ensures.1 bytes table e) ∙ c.if-not-fits_with.true)

pub returns-then-k-c : goal.returns-then-k-c
returns-then-k-c c = λ bytes table e s. let fit = sym (c.fits_with.ensures.1 bytes table e) ∙ c.if-not-fits_with.false in
    check-row _ _ _ fit (s fit) (omega arith)

pub returns-then-k-c-2 : goal.returns-then-k-c-2
returns-then-k-c-2 c = λ bytes table e s. let fit = sym (c.fits_with.ensures.1 bytes table e)
    ∙ c.if-not-fits_with.false in check-block _ _ _ fit (s fit) (omega arith) (omega arith)

pub returns : goal.returns
returns c = λ bytes table e s. let fit = sym (c.fits_with.ensures.1 bytes table e)
    ∙ c.if-not-fits_with.false in check-valid _ _ _ fit (s fit) (omega arith) (omega arith)
