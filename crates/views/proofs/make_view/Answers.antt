-- `views::make_view` meets its contract. Assumes nothing.
use mathlib.Core.Path.{refl, sym, ◌∙◌}
use native.Mathlib.Omega.{arith}
use Rattle.bounds.specs.Bounds.{byte-limit-is}
use Rattle.words.specs.Words.{pad}
use Rattle.views.specs.View.{make_view, zero_view}
use Rattle.views.specs.ViewLaws.{made-refused, made-accepted, view-whole, length-make}
use Rattle.views.proofs.make_view.Goals as goal

pub returns-then-v-gt-BYTE_LIMIT : goal.returns-then-v-gt-BYTE_LIMIT
unfolding zero_view pad
returns-then-v-gt-BYTE_LIMIT c = sym (made-refused _ _ _ (omega (arith, byte-limit-is)))

pub returns : goal.returns
unfolding zero_view pad
returns c =
    let a = c.args in
    let x = a.v.now in
    let view = c.put_view.ensures ∙ view-whole zero_view (make_view x a.block a.offset) refl (length-make x a.block a.offset) in
    rw view (sym (made-accepted x a.block a.offset (omega (arith, byte-limit-is))))
