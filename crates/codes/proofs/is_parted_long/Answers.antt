-- `codes::is_parted_long` meets its contract. Assumes nothing.
use Rattle.codes.proofs.Long.{window-of, long-no, last-stands, two-windows, three-windows}
use mathlib.Core.Bool.{true≢false}
use mathlib.Core.Path.{refl, sym, ◌∙◌}
use native.Mathlib.Omega.{arith}
use Rattle.codes.proofs.is_parted_long.Goals as goal

pub returns-then-s-eq45 : goal.returns-then-s-eq45
returns-then-s-eq45 c = long-no c.args.s.now c.requires.0 (λ p. p.first refl c.if-s-eq45.true)

pub returns-then-not-may_stand : goal.returns-then-not-may_stand
returns-then-not-may_stand c = long-no c.args.s.now c.requires.0
    (λ p. true≢false
    (sym (last-stands c.args.s.now
    c.requires.0 p) ∙ (sym c.may_stand.ensures ∙ c.if-not-may_stand.true)))

pub returns-then-not-window : goal.returns-then-not-window
returns-then-not-window c = long-no c.args.s.now
    c.requires.0
    (λ p. true≢false
    (sym (window-of c.args.s.now p 0 (omega arith)) ∙
    (sym c.window.ensures ∙ c.if-not-window.true)))

pub returns-then-n-le17 : goal.returns-then-n-le17
returns-then-n-le17 c = two-windows c.args.s.now
    c.requires.0
    c.if-s-eq45.false
    (sym c.may_stand.ensures ∙ c.if-not-may_stand.false)
    (sym c.window.ensures ∙ c.if-not-window.false) _ c.if-n-le17.true c.window-then-n-le17.ensures

pub returns-then-window : goal.returns-then-window
returns-then-window c = three-windows c.args.s.now c.requires.0 c.if-s-eq45.false
    (sym c.may_stand.ensures ∙ c.if-not-may_stand.false) (sym c.window.ensures ∙ c.if-not-window.false) _ c.requires.1
    (sym c.window-2.ensures ∙ c.if-window.true) c.window-then-window.ensures

pub returns-else-window : goal.returns-else-window
returns-else-window c = c.if-window.false ∙ long-no c.args.s.now c.requires.0
    (λ p. true≢false (sym (window-of c.args.s.now p 8 (omega arith)) ∙ (sym c.window-2.ensures ∙ c.if-window.false)))
