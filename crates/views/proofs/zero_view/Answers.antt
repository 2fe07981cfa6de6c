-- `views::zero_view` meets its contract. Assumes nothing.
use native.Mathlib.Omega.{arith}
use Rattle.views.proofs.Laws.{zero-words}
use Rattle.views.proofs.zero_view.Goals as goal

pub returns : goal.returns
returns c = let s = c.args in cc (zero-words s.b.now s.o (omega arith))
