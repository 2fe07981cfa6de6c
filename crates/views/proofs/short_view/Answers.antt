-- `views::short_view` meets its contract. Assumes nothing.
use Rattle.views.proofs.Laws.{two-words}
use native.Mathlib.Omega.{arith}
use Rattle.views.proofs.short_view.Goals as goal

pub returns : goal.returns
returns c =
    let s = c.args in
    cc (two-words s.b.now s.v.now s.o _ _
    (λ j. (c.type_inv.v j).fits) (omega arith)
    (omega arith) c.words_of-p.ensures.0
    c.words_of-p.ensures.1)
