-- `text_exports::tambuyeel_make_view` meets its contract. Assumes nothing.
use Rattle.bounds.specs.Refusals.{accepted}
use mathlib.Core.Path.{◌≡◌, refl, sym, ap, ◌∙◌}
use Rattle.views.specs.declared.Made.{Made}
use Rattle.views.specs.Made.{view_why}
use Rattle.views.specs.ViewLaws.{made-why, made-view}
use Rattle.text_exports.proofs.tambuyeel_make_view.Goals as goal

pub returns-in-Ok : goal.returns-in-Ok
returns-in-Ok c =
    let a = c.args in
    let x = a.x.now in
    let m = c.make_view-made.ensures in
    let why : view_why x ≡ accepted = sym (made-why x a.block a.offset) ∙ sym (ap (λ (r : Made). r.why) m)
    ∙ c.in-Ok.is in
    let view = ap (λ (r : Made). r.view) m ∙ made-view x a.block a.offset why in
    rw why (record { value = refl; view_after = view })

pub returns-in-Err : goal.returns-in-Err
returns-in-Err c =
    let a = c.args in
    let x = a.x.now in
    let m = c.make_view-made.ensures in
    let why = sym (made-why x a.block a.offset) ∙ sym (ap (λ (r : Made). r.why) m) ∙ c.in-Err.is in
    rw why (record { value = c.number.ensures; view_after = refl })
