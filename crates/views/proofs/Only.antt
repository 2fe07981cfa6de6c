-- No second answer to `make_view`. Assumes nothing.
use mathlib.Core.Path.{sym, ◌∙◌}
use Rattle.basis.specs.Only.{Only}
use Rattle.views.proofs.make_view.Kinds as make-view-kinds
use Rattle.views.proofs.make_view.Reads as make-view

pub one-view : Only make-view-kinds.ps make-view-kinds.r make-view.Post (λ κs z s. z)
one-view κs a z z' s s' p q = p ∙ sym q
