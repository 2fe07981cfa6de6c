-- No second answer to the exported calls, and no second view. Assumes nothing.
use mathlib.Core.Path.{sym, ◌∙◌}
use Rattle.basis.specs.Only.{Only}
use Rattle.text_exports.proofs.tambuyeel_utf8.Kinds as utf8-kinds
use Rattle.text_exports.proofs.tambuyeel_utf8.Reads as utf8
use Rattle.text_exports.proofs.tambuyeel_make_view.Kinds as make-view-kinds
use Rattle.text_exports.proofs.tambuyeel_make_view.Reads as make-view

pub one-text : Only utf8-kinds.ps utf8-kinds.r utf8.Post (λ κs z s. z)
one-text κs a z z' s s' p q = p ∙ sym q

pub one_number : Only make-view-kinds.ps make-view-kinds.r make-view.Post (λ κs z s. z)
one_number κs a z z' s s' p q = p.0 ∙ sym q.0

pub one-view : Only make-view-kinds.ps make-view-kinds.r make-view.Post (λ κs z s. s.1.1.1.0.now)
one-view κs a z z' s s' p q = p.1 ∙ sym q.1
